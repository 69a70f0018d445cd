-- An execution of a statement, as the meaning makes it and as the cache machine does.
use Rattle.std.specs.Prelude.{ℕ, List, [], Option, Some, None}
use Rattle.dx_base.specs.declared.function.Module.{Module}
use Rattle.dx_macros.specs.Expansion.{effects}
use Rattle.dx_macros.specs.Tree.{CallTree}
use Rattle.dx_macros.specs.Walk.{Fault, first_fault}
use Rattle.dx_objects.specs.Runs.{Values, Answer}
use Rattle.dx_machine.specs.Machine.{Event}
use Rattle.dx_performing.specs.Course.{Fixed, world_of, executed}
use Rattle.dx_performing.specs.Execution.{Execution, Faulty, Current, execution, behind, world_with}
use Rattle.dx_performing.specs.Kept.{Kept, current}
use Rattle.dx_shown.specs.Session.{Making}

-- a static fault ends an execution before its first effect
abbrev pub faulty : Fault → Execution
faulty f = record { printed = []; error = Some (record { site = f.site; failure = Faulty f.fault }); exports = []; demanded = []; sets = [] }

-- ---- the meaning's

-- an execution, and the links and written files behind it
pub record Meant : Type 0 where
  pub execution : Execution
  pub behind : Current

abbrev pub meant_from : Current → Execution → Meant × Current
meant_from now x = (record { execution = x; behind = behind x now }, behind x now)

abbrev pub meant_unless : Option Fault → Execution → Current → Meant × Current
meant_unless None x now = meant_from now x
meant_unless (Some f) x now = meant_from now (faulty f)

-- afresh, from what is current
abbrev pub meant : (Module → Values → Option (List ℕ) → Answer) → (List ℕ → Option (List ℕ)) → Making Current Meant
meant answer file d frames s now = meant_unless (first_fault d s) (execution (world_with now answer file) (effects d frames s)) now

-- ---- the cache machine's

-- the same, and what happened in it
pub record Coursed : Type 0 where
  pub execution : Execution
  pub behind : Current
  pub events : List Event

abbrev pub coursed_by : Fixed → List CallTree → Kept → Coursed × Kept
coursed_by x effects k =
    let course = executed x effects k in
    (record { execution = execution (world_of x k) effects; behind = current course.kept; events = course.events }, course.kept)

abbrev pub coursed_unless : Fixed → Option Fault → List CallTree → Kept → Coursed × Kept
coursed_unless x None effects k = coursed_by x effects k
coursed_unless x (Some f) effects k = (record { execution = faulty f; behind = current k; events = [] }, k)

abbrev pub coursed : Fixed → Making Kept Coursed
coursed x d frames s k = coursed_unless x (first_fault d s) (effects d frames s) k
