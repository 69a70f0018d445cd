-- Where each execution made from what is good is fine and leaves what is good, so are all that a session shows.
use Rattle.std.proofs.Common.{ℕ, zero, suc, List, [], ◌∷◌, ◌++◌, Bool, true, false, Option, Some, None}
use Rattle.std.specs.Prelude.{ℤ, is_some, if◌then◌else◌}
use Rattle.dx_ast.specs.declared.sequencing.FrameVar.{FrameVar}
use Rattle.dx_ast.specs.declared.sequencing.Frames.{Frames}
use Rattle.dx_ast.specs.declared.sequencing.Word.{Word}
use Rattle.dx_ast.specs.declared.sequencing.Word.TheVariants as word
use Rattle.dx_ast.specs.Classes.{Text}
use Rattle.dx_ast.specs.Lawful.{IsLawfulExpr, IsLawful, AreLawful}
use Rattle.dx_ast.specs.Syntax.{Expr, Constant, Name, Frame, CallOf, Stmt, Assigns, Calls, Defines, Includes, Sets, Says, Sequences, Stmts, NoStmt, AndStmt}
use Rattle.dx_macros.specs.Dictionary.{Dictionary}
use Rattle.dx_macros.specs.Walk.{first_fault}
use Rattle.dx_sequencer.specs.Sequencer as seq
use Rattle.dx_shown.specs.Session as session
use Rattle.dx_shown.specs.Session.{State, Shown, Executes, PlayTooLong, FrameRange, Done, Making, and_then, silently, with_kept, with_sequencer, initial}
use Rattle.dx_outcome.proofs.Attributes.{IsLawfulDictionary, empty_lawful, defining_lawful, with_definition_lawful}

-- each execution that is shown is fine
abbrev pub AllFine : {X : Type 0} → (X → Type 0) → List (Shown X) → Type 0
AllFine Fine [] = Unit {0}
AllFine Fine (Executes x ∷ rest) = Fine x × AllFine Fine rest
AllFine Fine (PlayTooLong ∷ rest) = AllFine Fine rest
AllFine Fine (FrameRange ∷ rest) = AllFine Fine rest

all_fine_append : {X : Type 0} (Fine : X → Type 0) (xs ys : List (Shown X)) → AllFine Fine xs → AllFine Fine ys → AllFine Fine (xs ++ ys)
all_fine_append Fine [] ys p q = q
all_fine_append Fine (Executes x ∷ rest) ys p q = (p.0, all_fine_append Fine rest ys p.1 q)
all_fine_append Fine (PlayTooLong ∷ rest) ys p q = all_fine_append Fine rest ys p q
all_fine_append Fine (FrameRange ∷ rest) ys p q = all_fine_append Fine rest ys p q

abbrev MayBeLawful : Option Stmt → Type 0
MayBeLawful None = Unit {0}
MayBeLawful (Some s) = IsLawful s

module _ (K X : Type 0) (Good : K → Type 0) (Fine : X → Type 0) (make : Making K X)
    (makes : (d : Dictionary) (frames : Frames) (s : Stmt) (k : K) → IsLawfulDictionary d → IsLawful s → Good k → Fine (make d frames s k).0 × Good (make d frames s k).1) where
  record IsGood (st : State K) : Type 0 where
    dictionary : IsLawfulDictionary st.dictionary
    sequence : MayBeLawful st.sequence
    kept : Good st.kept

  record WentWell (d : Done K X) : Type 0 where
    fine : AllFine Fine d.shown
    state : IsGood d.state

  quiet : (st : State K) → IsGood st → WentWell (silently st)
  quiet st g = record { fine = tt; state = g }

  sequenced : (st : State K) (s : seq.State) → IsGood st → IsGood (with_sequencer s st)
  sequenced st s g = record { dictionary = g.dictionary; sequence = g.sequence; kept = g.kept }

  executed_well : (st : State K) (s : Stmt) → IsLawful s → IsGood st → WentWell (session.executed make st s)
  executed_well st s h g =
      let made = makes st.dictionary (seq.frames_of st.sequencer) s st.kept g.dictionary h g.kept in
      record { fine = (made.0, tt); state = record { dictionary = g.dictionary; sequence = g.sequence; kept = made.1 } }

  then_well : (first : Done K X) (next : State K → Done K X) → WentWell first → ((st : State K) → IsGood st → WentWell (next st)) → WentWell (and_then first next)
  then_well first next one more =
      let two = more first.state one.state in
      record { fine = all_fine_append Fine first.shown (next first.state).shown one.fine two.fine; state = two.state }

  assignment_good : (targets : List Text) (e : Expr) (st : State K) → IsLawfulExpr e → IsGood st → IsGood (session.with_assignment targets e st)
  assignment_good targets e st h g = record {
    dictionary = with_definition_lawful (record { targets = targets; value = e }) st.dictionary h g.dictionary;
    sequence = g.sequence;
    kept = g.kept;
  }

  joined_well : (targets : List Text) (e : Expr) (st : State K) → IsLawfulExpr e → IsGood st → WentWell (silently (session.joined targets e st))
  joined_well targets e st h g = by (is_some (first_fault st.dictionary (Assigns targets e)))
    where
      by : (b : Bool) → WentWell (silently (if b then st else session.with_assignment targets e st))
      by true = quiet st g
      by false = quiet (session.with_assignment targets e st) (assignment_good targets e st h g)

  assigned_well : (targets : List Text) (e : Expr) (st : State K) → IsLawful (Assigns targets e) → IsGood st → WentWell (session.assigned make targets e st)
  assigned_well targets (Constant c) st h g = quiet _ (assignment_good targets (Constant c) st h.value g)
  assigned_well targets (Name n) st h g = quiet _ (assignment_good targets (Name n) st h.value g)
  assigned_well targets (Frame v) st h g = quiet _ (assignment_good targets (Frame v) st h.value g)
  assigned_well targets (CallOf c) st h g = then_well _ (λ next. silently (session.joined targets (CallOf c) next)) (executed_well st (Assigns targets (CallOf c)) h g) (λ next q. joined_well targets (CallOf c) next h.value q)

  set_well : (v : FrameVar) (x : ℤ) (st : State K) → IsGood st → WentWell (session.set v x st)
  set_well v x st g = by (seq.is_refused v x)
    where
      by : (b : Bool) → WentWell (if b then session.refused session.FrameRange st else silently (with_sequencer (seq.with_var v x st.sequencer) st))
      by true = record { fine = tt; state = g }
      by false = quiet _ (sequenced st (seq.with_var v x st.sequencer) g)

  sequence_well : (s : Option Stmt) (st : State K) → MayBeLawful s → IsGood st → WentWell (session.sequence_executed make s st)
  sequence_well None st h g = quiet st g
  sequence_well (Some s) st h g = executed_well st s h g

  at_frame_well : (frame : Option ℤ) (st : State K) → IsGood st → WentWell (session.at_frame make frame st)
  at_frame_well None st g = quiet st g
  at_frame_well (Some frame) st g = sequence_well st.sequence st g.sequence g

  stepped_well : (st : State K) → IsGood st → WentWell (session.stepped make st)
  stepped_well st g = at_frame_well (seq.step_frame st.sequencer) (with_sequencer (seq.after_step st.sequencer) st) (sequenced st (seq.after_step st.sequencer) g)

  often_well : (n : ℕ) (st : State K) → IsGood st → WentWell (session.stepped_often make n st)
  often_well zero st g = quiet st g
  often_well (suc n) st g = then_well _ (session.stepped_often make n) (stepped_well st g) (often_well n)

  played_well : (st : State K) → IsGood st → WentWell (session.played make st)
  played_well st g = by (seq.is_too_long (seq.at_play st.sequencer))
    where
      by : (b : Bool) → WentWell (if b then session.refused session.PlayTooLong st else session.stepped_often make (seq.play_steps (seq.at_play st.sequencer)) (with_sequencer (seq.at_play st.sequencer) st))
      by true = record { fine = tt; state = g }
      by false = often_well (seq.play_steps (seq.at_play st.sequencer)) (with_sequencer (seq.at_play st.sequencer) st) (sequenced st (seq.at_play st.sequencer) g)

  told_well : (w : Word) (st : State K) → IsGood st → WentWell (session.told make w st)
  told_well word.Play st g = played_well st g
  told_well word.Step st g = stepped_well st g
  told_well word.Stop st g = quiet _ (sequenced st (seq.rewound st.sequencer) g)
  told_well word.Forward st g = quiet _ (sequenced st (record st.sequencer { forward = true }) g)
  told_well word.Backward st g = quiet _ (sequenced st (record st.sequencer { forward = false }) g)
  told_well word.LoopOn st g = quiet _ (sequenced st (record st.sequencer { loops = true }) g)
  told_well word.LoopOff st g = quiet _ (sequenced st (record st.sequencer { loops = false }) g)
  told_well word.PalindromeOn st g = quiet _ (sequenced st (record st.sequencer { palindrome = true }) g)
  told_well word.PalindromeOff st g = quiet _ (sequenced st (record st.sequencer { palindrome = false }) g)

  statement_well : (st : State K) (s : Stmt) → IsLawful s → IsGood st → WentWell (session.statement make st s)
  statement_well st (Assigns targets e) h g = assigned_well targets e st h g
  statement_well st (Calls c) h g = executed_well st (Calls c) h g
  statement_well st (Defines m) h g = quiet _ (record { dictionary = defining_lawful m st.dictionary h g.dictionary; sequence = g.sequence; kept = g.kept })
  statement_well st (Includes name) h g = quiet st g
  statement_well st (Sets v e) h g = set_well v (session.setting (seq.frames_of st.sequencer) e) st g
  statement_well st (Says w) h g = told_well w st g
  statement_well st (Sequences c) h g = quiet _ (record { dictionary = g.dictionary; sequence = h; kept = g.kept })

  statements_well : (st : State K) (ss : Stmts) → AreLawful ss → IsGood st → WentWell (session.statements make st ss)
  statements_well st NoStmt h g = quiet st g
  statements_well st (AndStmt s rest) h g = then_well _ (λ next. session.statements make next rest) (statement_well st s h.0 g) (λ next q. statements_well next rest h.1 q)

  -- from the beginning of a session on
  pub all_fine : (k : K) (ss : Stmts) → AreLawful ss → Good k → AllFine Fine (session.statements make (initial k) ss).shown
  all_fine k ss h g = (statements_well (initial k) ss h (record { dictionary = empty_lawful; sequence = tt; kept = g })).fine
