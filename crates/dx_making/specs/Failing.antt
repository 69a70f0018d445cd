-- What is wrong with a call, by the text of its site.
use Rattle.std.specs.Prelude.{◌≡◌, List, Option, Some, None, Bool, true, false, Result, Ok, Err}
use Rattle.dx_macros.specs.Site.{Step, steps_text}
use Rattle.dx_performing.specs.Execution.{Error}
use Rattle.dx_performing.specs.Execution as meant
use Rattle.dx_engine.specs.declared.exec_error.ExecError.{ExecError}
use Rattle.dx_engine.specs.declared.exec_error.ExecError.TheVariants as exec
use Rattle.dx_making.specs.declared.end.End.{End}
use Rattle.dx_making.specs.declared.end.End.TheVariants as end
use Rattle.dx_making.specs.declared.failing.Failing.{Failing}
use Rattle.dx_making.specs.declared.failing.Failing.TheVariants.{Faulty, Refused}

abbrev pub FailsAs : Option Error → Option Failing → Type 0
FailsAs e None = e ≡ None
FailsAs e (Some (Faulty site fault)) = (s : List Step) × (e ≡ Some (record { site = s; failure = meant.Faulty fault })) × (site ≡ steps_text s)
FailsAs e (Some (Refused site code)) = (s : List Step) × (e ≡ Some (record { site = s; failure = meant.Refused code })) × (site ≡ steps_text s)

-- it is a static fault
abbrev pub is_faulty : Option Failing → Bool
is_faulty None = false
is_faulty (Some (Faulty site fault)) = true
is_faulty (Some (Refused site code)) = false

-- how an execution of a graph ends
abbrev pub failing_of : Result (Unit {0}) ExecError → Result (Option Failing) End
failing_of (Ok _) = Ok None
failing_of (Err (exec.Module site code)) = Ok (Some (Refused site code))
failing_of (Err exec.ReadFault) = Err end.ReadFault
failing_of (Err exec.WriteFault) = Err end.WriteFault
failing_of (Err exec.ExportFault) = Err end.ExportFault
failing_of (Err exec.Memory) = Err end.Memory
