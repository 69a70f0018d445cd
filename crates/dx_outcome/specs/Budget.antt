-- The results that the cache keeps behind each execution come to at most the budget.
use Rattle.std.specs.Prelude.{ℕ, ◌≤◌, List, [], ◌∷◌}
use Rattle.dx_getting.specs.Stands.{Answers}
use Rattle.dx_io.specs.Devices.{FileMap}
use Rattle.dx_looking.specs.Setting.{fixed}
use Rattle.dx_machine.specs.Machine.{Cached, total}
use Rattle.dx_performing.specs.Course.{Fixed}
use Rattle.dx_performing.specs.Kept.{Kept, new as none_kept}
use Rattle.dx_shown.specs.Listed.{of_executions}
use Rattle.dx_shown.specs.Made.{coursed}
use Rattle.dx_shown.specs.Session.{Making, initial, statements}
use Rattle.dx_outcome.specs.Plan.{Plan, NoLine, Refuses, Performs}

-- executions as the cache machine makes them, of which the entries behind each are shown
abbrev pub keeping : Fixed → Making Kept (List Cached)
keeping x d frames s k = ((coursed x d frames s k).1.entries, (coursed x d frames s k).1)

abbrev pub AllWithin : ℕ → List (List Cached) → Type 0
AllWithin budget [] = Unit {0}
AllWithin budget (entries ∷ later) = (total entries ≤ budget) × AllWithin budget later

-- nothing is kept where nothing is performed
abbrev pub StaysWithin : Answers → FileMap → Plan → Type 0
StaysWithin answer files NoLine = Unit {0}
StaysWithin answer files (Refuses reads why) = Unit {0}
StaysWithin answer files (Performs reads said ss) =
    AllWithin said.budget (of_executions (λ (entries : List Cached). entries ∷ []) (statements (keeping (fixed answer files said.budget)) (initial none_kept) ss).shown)
