-- A session, by how an execution is made: what each statement shows, and the state behind it.
use Rattle.std.specs.Prelude.{ℕ, zero, suc, ℤ, pos, List, [], ◌∷◌, ◌++◌, Option, Some, None, is_some, Bool, true, false, if◌then◌else◌}
use Rattle.dx_ast.specs.declared.constants.Const.{Const}
use Rattle.dx_ast.specs.declared.constants.Const.TheVariants as const
use Rattle.dx_ast.specs.declared.sequencing.FrameVar.{FrameVar}
use Rattle.dx_ast.specs.declared.sequencing.Frames.{Frames}
use Rattle.dx_ast.specs.declared.sequencing.Word.{Word}
use Rattle.dx_ast.specs.declared.sequencing.Word.TheVariants as word
use Rattle.dx_ast.specs.Classes.{Text}
use Rattle.dx_ast.specs.Syntax.{Expr, Constant, Name, Frame, CallOf, Stmt, Assigns, Calls, Defines, Includes, Sets, Says, Sequences, Stmts, NoStmt, AndStmt}
use Rattle.dx_macros.specs.Dictionary.{Dictionary, empty, defining, with_definition}
use Rattle.dx_macros.specs.Expansion.{frame_value}
use Rattle.dx_macros.specs.Walk.{first_fault}
use Rattle.dx_sequencer.specs.Sequencer as seq

-- macros and definitions, the sequencer, the statement with the sequence call, and what executions keep
pub record State (K : Type 0) : Type 0 where
  pub dictionary : Dictionary
  pub sequencer : seq.State
  pub sequence : Option Stmt
  pub kept : K

-- an execution, a play of too many steps, or a delta below 1
pub data Shown (X : Type 0) : Type 0 where
  Executes : X → Shown X
  PlayTooLong : Shown X
  FrameRange : Shown X

-- how an execution is made: what it comes to, and what is kept behind it
abbrev pub Making : Type 0 → Type 0 → Type 0
Making K X = Dictionary → Frames → Stmt → K → X × K

-- what was shown, and the state behind it
pub record Done (K X : Type 0) : Type 0 where
  pub shown : List (Shown X)
  pub state : State K

abbrev pub silently : {K X : Type 0} → State K → Done K X
silently st = record { shown = []; state = st }

abbrev pub refused : {K X : Type 0} → Shown X → State K → Done K X
refused what st = record { shown = what ∷ []; state = st }

-- one thing and then another
abbrev pub and_then : {K X : Type 0} → Done K X → (State K → Done K X) → Done K X
and_then first next = record { shown = first.shown ++ (next first.state).shown; state = (next first.state).state }

-- ---- the parts of a state

abbrev pub with_dictionary : {K : Type 0} → Dictionary → State K → State K
with_dictionary d st = record { dictionary = d; sequencer = st.sequencer; sequence = st.sequence; kept = st.kept }

abbrev pub with_sequencer : {K : Type 0} → seq.State → State K → State K
with_sequencer s st = record { dictionary = st.dictionary; sequencer = s; sequence = st.sequence; kept = st.kept }

abbrev pub with_sequence : {K : Type 0} → Stmt → State K → State K
with_sequence s st = record { dictionary = st.dictionary; sequencer = st.sequencer; sequence = Some s; kept = st.kept }

abbrev pub with_kept : {K : Type 0} → K → State K → State K
with_kept k st = record { dictionary = st.dictionary; sequencer = st.sequencer; sequence = st.sequence; kept = k }

-- ---- executions

-- a statement executed with what is current
abbrev pub executed : {K X : Type 0} → Making K X → State K → Stmt → Done K X
executed make st s =
    let made = make st.dictionary (seq.frames_of st.sequencer) s st.kept in
    record { shown = Executes made.0 ∷ []; state = with_kept made.1 st }

-- ---- assignments

-- calls stand within calls alone
abbrev pub has_call : Expr → Bool
has_call (Constant c) = false
has_call (Name n) = false
has_call (Frame v) = false
has_call (CallOf c) = true

abbrev pub with_assignment : {K : Type 0} → List Text → Expr → State K → State K
with_assignment targets e st = with_dictionary (with_definition (record { targets = targets; value = e }) st.dictionary) st

-- a static fault keeps an assignment from joining
abbrev pub joined : {K : Type 0} → List Text → Expr → State K → State K
joined targets e st = if is_some (first_fault st.dictionary (Assigns targets e)) then st else with_assignment targets e st

-- an assignment without a call joins; one with a call is executed first
abbrev pub assigned : {K X : Type 0} → Making K X → List Text → Expr → State K → Done K X
assigned make targets e st =
    if has_call e then and_then (executed make st (Assigns targets e)) (λ next. silently (joined targets e next)) else silently (with_assignment targets e st)

-- ---- the sequencer

-- an integer, or the number of a variable
abbrev pub number_in : Const → ℤ
number_in (const.Int n) = n
number_in other = pos 0

abbrev pub setting : Frames → Expr → ℤ
setting frames (Constant c) = number_in c
setting frames (Frame v) = frame_value frames v
setting frames other = pos 0

abbrev pub set : {K X : Type 0} → FrameVar → ℤ → State K → Done K X
set v x st = if seq.is_refused v x then refused FrameRange st else silently (with_sequencer (seq.with_var v x st.sequencer) st)

-- the sequence call, if there is one, is executed as if it stood at this place
abbrev pub sequence_executed : {K X : Type 0} → Making K X → Option Stmt → State K → Done K X
sequence_executed make None st = silently st
sequence_executed make (Some s) st = executed make st s

abbrev pub at_frame : {K X : Type 0} → Making K X → Option ℤ → State K → Done K X
at_frame make None st = silently st
at_frame make (Some frame) st = sequence_executed make st.sequence st

-- a step executes the sequence call exactly where it has a frame
abbrev pub stepped : {K X : Type 0} → Making K X → State K → Done K X
stepped make st = at_frame make (seq.step_frame st.sequencer) (with_sequencer (seq.after_step st.sequencer) st)

abbrev pub stepped_often : {K X : Type 0} → Making K X → ℕ → State K → Done K X
stepped_often make zero st = silently st
stepped_often make (suc n) st = and_then (stepped make st) (stepped_often make n)

-- a step for each frame from next to the last inside
abbrev pub played : {K X : Type 0} → Making K X → State K → Done K X
played make st =
    let s = seq.at_play st.sequencer in
    if seq.is_too_long s then refused PlayTooLong st else stepped_often make (seq.play_steps s) (with_sequencer s st)

abbrev pub told : {K X : Type 0} → Making K X → Word → State K → Done K X
told make word.Play st = played make st
told make word.Step st = stepped make st
told make word.Stop st = silently (with_sequencer (seq.rewound st.sequencer) st)
told make word.Forward st = silently (with_sequencer (record st.sequencer { forward = true }) st)
told make word.Backward st = silently (with_sequencer (record st.sequencer { forward = false }) st)
told make word.LoopOn st = silently (with_sequencer (record st.sequencer { loops = true }) st)
told make word.LoopOff st = silently (with_sequencer (record st.sequencer { loops = false }) st)
told make word.PalindromeOn st = silently (with_sequencer (record st.sequencer { palindrome = true }) st)
told make word.PalindromeOff st = silently (with_sequencer (record st.sequencer { palindrome = false }) st)

-- ---- statements

abbrev pub statement : {K X : Type 0} → Making K X → State K → Stmt → Done K X
statement make st (Assigns targets e) = assigned make targets e st
statement make st (Calls c) = executed make st (Calls c)
statement make st (Defines m) = silently (with_dictionary (defining m st.dictionary) st)
statement make st (Includes name) = silently st
statement make st (Sets v e) = set v (setting (seq.frames_of st.sequencer) e) st
statement make st (Says w) = told make w st
statement make st (Sequences c) = silently (with_sequence (Sequences c) st)

abbrev pub statements : {K X : Type 0} → Making K X → State K → Stmts → Done K X
statements make st NoStmt = silently st
statements make st (AndStmt s rest) = and_then (statement make st s) (λ next. statements make next rest)

-- when a session begins
abbrev pub initial : {K : Type 0} → K → State K
initial k = record { dictionary = empty; sequencer = seq.initial; sequence = None; kept = k }
