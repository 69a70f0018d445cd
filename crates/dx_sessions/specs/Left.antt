-- Where a statement that is cut short leaves the session.
use Rattle.std.specs.Prelude.{◌≡◌, ◌⊎◌, ◌<◌, ℕ, zero, suc, List, [], ◌∷◌, ◌++◌}
use Rattle.dx_ast.specs.declared.sequencing.Word.{Word}
use Rattle.dx_ast.specs.declared.sequencing.Word.TheVariants as word
use Rattle.dx_ast.specs.Syntax.{Stmt, Says}
use Rattle.dx_engine.specs.Executing.{Devices}
use Rattle.dx_getting.specs.Told.{Adds}
use Rattle.dx_io.specs.Devices.{Grows, GrowsInto}
use Rattle.dx_machine.specs.Machine.{tasks_of}
use Rattle.dx_performing.specs.Execution.{Current, Export, after_exports}
use Rattle.dx_performing.specs.Kept.{Kept, current}
use Rattle.dx_sequencer.specs.Sequencer as seq
use Rattle.dx_shown.specs.Made.{Coursed}
use Rattle.dx_shown.specs.Session.{Shown, Executes, PlayTooLong, FrameRange, State}
use Rattle.dx_telling.specs.Shown.{behind_of}
use Rattle.dx_telling.specs.declared.listings.Listings.{Listings}

-- before its first put: of what its effects print a front was printed, and nothing behind it; nothing was put, and links and written
-- files are those before
pub record IsUnput (c : Coursed) (was now : Devices) (at left : Current) : Type 0 where
  pub printed : GrowsInto was.written now.written c.execution.printed
  pub puts : now.puts ≡ was.puts
  pub current : left ≡ at

-- at one of its puts: all that its effects print was printed and its runs were told; the files before this one were put, and are
-- written, and it wasn't; the links are those before
pub record IsAtPut (c : Coursed) (was now : Devices) (at left : Current) : Type 0 where
  pub printed : Grows was.written now.written c.execution.printed
  pub told : Adds was.told now.told (tasks_of c.events)
  pub front : List Export
  pub failed : Export
  pub rest : List Export
  pub split : c.execution.exports ≡ front ++ failed ∷ rest
  pub puts : Grows was.puts now.puts front
  pub links : left.links ≡ at.links
  pub written : left.written ≡ after_exports at.written front

-- behind its puts: all that its effects print was printed, its files were put and its runs told, and of what is told behind it a front
-- was printed; links and written files are those behind it
pub record IsBehind (listings : Listings) (c : Coursed) (was now : Devices) (left : Current) : Type 0 where
  pub front : List ℕ
  pub rest : List ℕ
  pub split : behind_of listings c ≡ front ++ rest
  pub printed : Grows was.written now.written (c.execution.printed ++ front)
  pub puts : Grows was.puts now.puts c.execution.exports
  pub told : Adds was.told now.told (tasks_of c.events)
  pub current : left ≡ c.behind

-- where an execution was cut short
pub data IsLeftIn (listings : Listings) (c : Coursed) (was now : Devices) (at left : Current) : Type 0 where
  before_puts : IsUnput c was now at left → IsLeftIn listings c was now at left
  at_a_put : IsAtPut c was now at left → IsLeftIn listings c was now at left
  behind_puts : IsBehind listings c was now left → IsLeftIn listings c was now at left

abbrev pub LeavesCurrent : Listings → List (Shown Coursed) → Devices → Devices → Current → Current → Type 0
LeavesCurrent listings [] was now at left = left ≡ at
LeavesCurrent listings (Executes c ∷ rest) was now at left = IsLeftIn listings c was now at left
LeavesCurrent listings (PlayTooLong ∷ rest) was now at left = left ≡ at
LeavesCurrent listings (FrameRange ∷ rest) was now at left = left ≡ at

-- macros, definitions, the sequencer and the sequence call are those of a state, in which what is shown next was cut short
pub record IsLeft (listings : Listings) (next : List (Shown Coursed)) (was now : Devices) (at new : State Kept) : Type 0 where
  pub dictionary : new.dictionary ≡ at.dictionary
  pub sequencer : new.sequencer ≡ at.sequencer
  pub sequence : new.sequence ≡ at.sequence
  pub current : LeavesCurrent listings next was now (current at.kept) (current new.kept)

-- ---- whatever the files tell

-- the sequencer behind so many steps
abbrev pub after_steps : ℕ → seq.State → seq.State
after_steps zero s = s
after_steps (suc n) s = seq.after_step (after_steps n s)

-- a play is left behind one of its steps, or before it where it has too many
abbrev pub LeavesPlay : seq.State → seq.State → Type 0
LeavesPlay old new = (new ≡ old) ⊎ ((n : ℕ) × (n < seq.play_steps (seq.at_play old)) × (new ≡ after_steps (suc n) (seq.at_play old)))

abbrev pub LeavesWord : Word → seq.State → seq.State → Type 0
LeavesWord word.Play old new = LeavesPlay old new
LeavesWord word.Step old new = new ≡ seq.after_step old
LeavesWord w old new = new ≡ old

abbrev pub LeavesSequencer : Stmt → seq.State → seq.State → Type 0
LeavesSequencer (Says w) old new = LeavesWord w old new
LeavesSequencer other old new = new ≡ old

-- macros, definitions and the sequence call are as before
pub record Stays (old new : State Kept) : Type 0 where
  pub dictionary : new.dictionary ≡ old.dictionary
  pub sequence : new.sequence ≡ old.sequence
