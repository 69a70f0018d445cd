-- The way back from a text to the top level.
use Rattle.std.specs.Prelude.{ℕ, List, [], ◌∷◌, Option, Some, None}
use Rattle.std.specs.Borrow.{Bor}
use Rattle.dx_macros.specs.Site.{Step, Target}

-- the step of a first target, if there is one
abbrev pub target_step : Option (Bor (List ℕ)) → List Step
target_step None = []
target_step (Some name) = Target name.now ∷ []
