-- What one execution does, and what it leaves.
use Rattle.std.specs.Prelude.{◌≡◌, ◌⊎◌, ℕ, List, map, Option, Some, None, Bool, true, false, Result, Ok, Err}
use Rattle.dx_io.specs.Devices.{Grows}
use Rattle.dx_macros.specs.Site.{Step, steps_text}
use Rattle.dx_macros.specs.Tree.{CallTree}
use Rattle.dx_machine.specs.Machine.{tasks_of}
use Rattle.dx_getting.specs.Stands.{shown_event}
use Rattle.dx_getting.specs.Told.{Told, Adds}
use Rattle.dx_performing.specs.Course.{Fixed, world_of, begins, executed}
use Rattle.dx_performing.specs.Execution.{Error, Refused, Export, execution, behind}
use Rattle.dx_performing.specs.Kept.{current}
use Rattle.dx_engine.specs.Keeping.{kept_of, IsSoundState}
use Rattle.dx_ending.specs.Putting.{ArePutBefore}
use Rattle.dx_engine.specs.Stopping.{StopsIn}
use Rattle.dx_engine.specs.declared.exec_error.ExecError.{ExecError}
use Rattle.dx_engine.specs.declared.exec_error.ExecError.TheVariants.{Module, ReadFault, WriteFault, ExportFault, Memory}
use Rattle.dx_engine.specs.declared.state.State.{State}

-- what is told of the devices before a call, or behind it: runs and reads, the text written, and the files put
pub record Devices : Type 0 where
  pub told : Told
  pub written : Option (List ℕ)
  pub puts : Option (List Export)

-- an error by the text of its site
abbrev pub EndsIn : Option Error → Result (Unit {0}) ExecError → Type 0
EndsIn e (Ok _) = e ≡ None
EndsIn e (Err (Module site code)) = (s : List Step) × (e ≡ Some (record { site = s; failure = Refused code })) × (site ≡ steps_text s)
EndsIn e (Err ReadFault) = Unit {0}
EndsIn e (Err WriteFault) = Unit {0}
EndsIn e (Err ExportFault) = Unit {0}
EndsIn e (Err Memory) = Unit {0}

-- it printed, put and ended as it is meant; the runs, the reads, the events and what is kept are the cache machine's; and what is
-- kept is sound again, with the links and the written files that are meant
pub record IsExecuted (x : Fixed) (st : State) (effects : List CallTree) (was : Devices) (result : Result (Unit {0}) ExecError) (st' : State) (now : Devices) : Type 0 where
  pub printed : Grows was.written now.written (execution (world_of x (kept_of st)) effects).printed
  pub puts : Grows was.puts now.puts (execution (world_of x (kept_of st)) effects).exports
  pub error : EndsIn (execution (world_of x (kept_of st)) effects).error result
  pub told : Adds was.told now.told (tasks_of (executed x effects (kept_of st)).events)
  pub events : st'.at.work.events.items ≡ map shown_event (executed x effects (kept_of st)).events
  pub kept : kept_of st' ≡ (executed x effects (kept_of st)).kept
  pub current : current (kept_of st') ≡ behind (execution (world_of x (kept_of st)) effects) (current (kept_of st))
  pub sound : IsSoundState x st'

-- cut short before its first put, in one of its effects or behind them: the text of those before it was written and a front of
-- its own, and a front of the runs up to it was told, with one name more at most where it may be read ahead
abbrev pub IsCutEarly : Bool → Fixed → State → List CallTree → Devices → Devices → Type 0
IsCutEarly ahead x st effects was now = StopsIn ahead x (kept_of st) effects (begins (kept_of st)) was.told was.written now.told now.written

-- cut short at a put: all its text was written and all its runs were told; the files before this one were put, and it wasn't
pub record IsCutLate (x : Fixed) (st : State) (effects : List CallTree) (was : Devices) (st' : State) (now : Devices) : Type 0 where
  pub printed : Grows was.written now.written (execution (world_of x (kept_of st)) effects).printed
  pub told : Adds was.told now.told (tasks_of (executed x effects (kept_of st)).events)
  pub puts : ArePutBefore was.puts now.puts st.written.files st'.written.files (execution (world_of x (kept_of st)) effects).exports

-- nothing was put
pub record NonePut (st : State) (was : Devices) (st' : State) (now : Devices) : Type 0 where
  pub puts : now.puts ≡ was.puts
  pub files : st'.written.files ≡ st.written.files

abbrev pub ExecutesSo : Fixed → State → List CallTree → Devices → Result (Unit {0}) ExecError → State → Devices → Type 0
ExecutesSo x st effects was (Ok u) st' now = IsExecuted x st effects was (Ok u) st' now
ExecutesSo x st effects was (Err (Module site code)) st' now = IsExecuted x st effects was (Err (Module site code)) st' now
ExecutesSo x st effects was (Err ReadFault) st' now = IsCutEarly true x st effects was now × NonePut st was st' now
ExecutesSo x st effects was (Err WriteFault) st' now = IsCutEarly false x st effects was now × NonePut st was st' now
ExecutesSo x st effects was (Err ExportFault) st' now = IsCutLate x st effects was st' now
ExecutesSo x st effects was (Err Memory) st' now = (IsCutEarly true x st effects was now × NonePut st was st' now) ⊎ IsCutLate x st effects was st' now
