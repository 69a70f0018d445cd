-- Where what a statement shows next begins: behind what it has shown before, in the state that there is then.
use Rattle.std.specs.Prelude.{◌≡◌, ◌<◌, ℕ, List, []}
use Rattle.std.specs.Bool.{MatchBool}
use Rattle.dx_ast.specs.declared.sequencing.Word.{Word}
use Rattle.dx_ast.specs.declared.sequencing.Word.TheVariants as word
use Rattle.dx_ast.specs.Syntax.{Stmt, Says}
use Rattle.dx_performing.specs.Kept.{Kept}
use Rattle.dx_sequencer.specs.Sequencer as seq
use Rattle.dx_shown.specs.Made.{Coursed}
use Rattle.dx_shown.specs.Session.{Making, Shown, State, stepped_often, with_sequencer}

-- at once
abbrev pub here : State Kept → List (Shown Coursed) → State Kept → Type 0
here st before at = (before ≡ []) × (at ≡ st)

-- the sequencer stands behind a step
abbrev pub moved : State Kept → State Kept
moved st = with_sequencer (seq.after_step st.sequencer) st

-- behind some whole steps, at the next one
pub record IsAmongSteps (make : Making Kept Coursed) (steps : ℕ) (st : State Kept) (before : List (Shown Coursed)) (at : State Kept) : Type 0 where
  pub whole : ℕ
  pub more : whole < steps
  pub shown : before ≡ (stepped_often make whole st).shown
  pub state : at ≡ moved (stepped_often make whole st).state

-- a play of too many steps has its line at once
abbrev pub in_play : Making Kept Coursed → State Kept → List (Shown Coursed) → State Kept → Type 0
in_play make st before at =
    let s = seq.at_play st.sequencer in
    MatchBool (seq.is_too_long s) (here st before at) (IsAmongSteps make (seq.play_steps s) (with_sequencer s st) before at)

abbrev pub in_word : Making Kept Coursed → Word → State Kept → List (Shown Coursed) → State Kept → Type 0
in_word make word.Play st = in_play make st
in_word make word.Step st = here (moved st)
in_word make w st = here st

abbrev pub in_statement : Making Kept Coursed → State Kept → Stmt → List (Shown Coursed) → State Kept → Type 0
in_statement make st (Says w) = in_word make w st
in_statement make st other = here st
