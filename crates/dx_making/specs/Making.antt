-- What making an execution does: all of it, or as much as was done before it was cut short.
use Rattle.std.specs.Prelude.{◌≡◌, ◌⊎◌, List, [], map, Option, Some, None, Bool, true, false, Result, Ok, Err}
use Rattle.dx_io.specs.Devices.{Grows, GrowsInto}
use Rattle.dx_machine.specs.Machine.{Event, tasks_of}
use Rattle.dx_getting.specs.Stands.{shown_event}
use Rattle.dx_getting.specs.Told.{Adds}
use Rattle.dx_performing.specs.Course.{Fixed}
use Rattle.dx_performing.specs.Kept.{Kept}
use Rattle.dx_engine.specs.Keeping.{kept_of, IsSoundState}
use Rattle.dx_ending.specs.Putting.{ArePutBefore}
use Rattle.dx_engine.specs.Executing.{Devices, NonePut}
use Rattle.dx_engine.specs.Fronts.{AddsFront}
use Rattle.dx_engine.specs.declared.state.State.{State}
use Rattle.dx_shown.specs.Made.{Coursed}
use Rattle.dx_making.specs.Failing.{FailsAs}
use Rattle.dx_making.specs.declared.end.End.{End}
use Rattle.dx_making.specs.declared.end.End.TheVariants.{ReadFault, WriteFault, ExportFault, Memory}
use Rattle.dx_making.specs.declared.failing.Failing.{Failing}
use Rattle.dx_making.specs.declared.failing.Failing.TheVariants.{Faulty, Refused}

-- nothing happens where there is a static fault, and else the state tells what happened
abbrev pub EventsAre : Option Failing → State → List Event → Type 0
EventsAre None st events = st.at.work.events.items ≡ map shown_event events
EventsAre (Some (Refused site code)) st events = st.at.work.events.items ≡ map shown_event events
EventsAre (Some (Faulty site fault)) st events = events ≡ []

-- it was made whole
pub record IsMade (x : Fixed) (st : State) (made : Coursed × Kept) (was : Devices) (failing : Option Failing) (st' : State) (now : Devices) : Type 0 where
  pub printed : Grows was.written now.written made.0.execution.printed
  pub puts : Grows was.puts now.puts made.0.execution.exports
  pub error : FailsAs made.0.execution.error failing
  pub told : Adds was.told now.told (tasks_of made.0.events)
  pub events : EventsAre failing st' made.0.events
  pub kept : kept_of st' ≡ made.1
  pub sound : IsSoundState x st'

-- before its first put: a front of its text was written, and a front of its runs was told, with one name more at most where it may
-- be read ahead
pub record IsCutEarly (ahead : Bool) (made : Coursed) (was now : Devices) : Type 0 where
  pub printed : GrowsInto was.written now.written made.execution.printed
  pub told : AddsFront ahead was.told now.told (tasks_of made.events)

-- at a put: all its text was written and all its runs were told; the files before this one were put, and it wasn't
pub record IsCutLate (made : Coursed) (st : State) (was : Devices) (st' : State) (now : Devices) : Type 0 where
  pub printed : Grows was.written now.written made.execution.printed
  pub told : Adds was.told now.told (tasks_of made.events)
  pub puts : ArePutBefore was.puts now.puts st.written.files st'.written.files made.execution.exports

abbrev pub MakesSo : Fixed → State → Coursed × Kept → Devices → Result (Option Failing) End → State → Devices → Type 0
MakesSo x st made was (Ok failing) st' now = IsMade x st made was failing st' now
MakesSo x st made was (Err ReadFault) st' now = IsCutEarly true made.0 was now × NonePut st was st' now
MakesSo x st made was (Err WriteFault) st' now = IsCutEarly false made.0 was now × NonePut st was st' now
MakesSo x st made was (Err ExportFault) st' now = IsCutLate made.0 st was st' now
MakesSo x st made was (Err Memory) st' now = (IsCutEarly true made.0 was now × NonePut st was st' now) ⊎ IsCutLate made.0 st was st' now
