-- How long the text of a site is at most.
use Rattle.std.specs.Prelude.{ℕ, ◌*◌, ◌^◌, ◌<◌, ◌≤◌, List, [], ◌∷◌, length}
use Rattle.dx_ast.specs.Limits.{max_name_bytes}
use Rattle.dx_ast.specs.Classes.{Text}
use Rattle.dx_macros.specs.Site.{Step, Nth, Target}

-- the name of a step is lawful by its length, and its number is one of 64 bits
abbrev pub IsShortStep : Step → Type 0
IsShortStep (Nth name k) = (length name ≤ max_name_bytes) × (k < 2 ^ 64)
IsShortStep (Target name) = length name ≤ max_name_bytes

abbrev pub AreShortSteps : List Step → Type 0
AreShortSteps [] = Unit {0}
AreShortSteps (s ∷ rest) = IsShortStep s × AreShortSteps rest

-- a name, a colon, 20 digits, and the `/` before the next step
abbrev pub max_step_bytes : ℕ
max_step_bytes = 277

abbrev pub IsShortSite : List Step → Text → Type 0
IsShortSite steps text = AreShortSteps steps → length text ≤ max_step_bytes * length steps
