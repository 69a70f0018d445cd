-- What a list of what was shown comes to: the files put, what the cache did, and whether there was an error.
use Rattle.std.specs.Prelude.{List, [], ◌∷◌, ◌++◌, Bool, true, false, ◌||◌, is_some}
use Rattle.dx_machine.specs.Machine.{Task, tasks_of}
use Rattle.dx_performing.specs.Execution.{Export}
use Rattle.dx_shown.specs.Made.{Coursed}
use Rattle.dx_shown.specs.Session.{Shown, Executes, PlayTooLong, FrameRange}

-- something of each execution, in order
abbrev pub of_executions : {X A : Type 0} → (X → List A) → List (Shown X) → List A
of_executions f [] = []
of_executions f (Executes x ∷ rest) = f x ++ of_executions f rest
of_executions f (PlayTooLong ∷ rest) = of_executions f rest
of_executions f (FrameRange ∷ rest) = of_executions f rest

-- the files that executions put
abbrev pub all_exports : List (Shown Coursed) → List Export
all_exports shown = of_executions (λ (c : Coursed). c.execution.exports) shown

-- the runs of modules, with the files that they read
abbrev pub all_tasks : List (Shown Coursed) → List Task
all_tasks shown = of_executions (λ (c : Coursed). tasks_of c.events) shown

-- an execution that ends with an error, and what is refused
abbrev pub is_error : Shown Coursed → Bool
is_error (Executes c) = is_some c.execution.error
is_error PlayTooLong = true
is_error FrameRange = true

abbrev pub any_error : List (Shown Coursed) → Bool
any_error [] = false
any_error (s ∷ rest) = is_error s || any_error rest
