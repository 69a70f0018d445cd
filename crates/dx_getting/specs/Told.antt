-- What the library and the files tell, and how it grows.
use Rattle.std.specs.Prelude.{◌≡◌, ℕ, List, [], ◌∷◌, ◌++◌, Option, Some, None}
use Rattle.dx_io.specs.Devices.{Grows}
use Rattle.dx_objects.specs.Runs.{Ran}
use Rattle.dx_machine.specs.Machine.{Task, runs_in, reads_in}

-- the runs of the library and the names that were read, each where it is told
pub record Told : Type 0 where
  pub done : Option (List Ran)
  pub asked : Option (List (List ℕ))

abbrev pub told : Option (List Ran) → Option (List (List ℕ)) → Told
told done asked = record { done = done; asked = asked }

-- a library that tells its runs tells these behind the earlier ones; one that tells none is free
abbrev pub TellsRuns : Option (List Ran) → Option (List Ran) → List Ran → Type 0
TellsRuns None now runs = Unit {0}
TellsRuns (Some old) now runs = now ≡ Some (old ++ runs)

-- these runs are told, and the names that they read
pub record Adds (base now : Told) (tasks : List Task) : Type 0 where
  pub done : TellsRuns base.done now.done (runs_in tasks)
  pub asked : Grows base.asked now.asked (reads_in tasks)

-- none, or the first of the rest
abbrev pub IsNext : List Task → List Task → Type 0
IsNext [] rest = Unit {0}
IsNext (t ∷ []) (u ∷ rest) = t ≡ u
IsNext more rest = ⊥

-- of these runs a front is told, and the names that it reads; the next one's name may be told too
pub record AddsSome (base now : Told) (tasks : List Task) : Type 0 where
  pub front : List Task
  pub rest : List Task
  pub whole : tasks ≡ front ++ rest
  pub done : TellsRuns base.done now.done (runs_in front)
  pub next : List Task
  pub is_next : IsNext next rest
  pub asked : Grows base.asked now.asked (reads_in (front ++ next))
