-- The sites of lawful scripts: how many steps they have, and how long their texts are.
use Rattle.std.specs.Prelude.{ℕ, ◌+◌, ◌^◌, ◌<◌, ◌≤◌, List, ◌∷◌, All, length}
use Rattle.dx_ast.specs.declared.constants.Const.{Const}
use Rattle.dx_ast.specs.declared.constants.Const.TheVariants as const
use Rattle.dx_ast.specs.Classes.{Text}
use Rattle.dx_ast.specs.Lawful.{IsName}
use Rattle.dx_macros.specs.Site.{Step, Nth, Target, Spot}

-- a lawful name, and a number of 64 bits
abbrev pub IsLawfulStep : Step → Type 0
IsLawfulStep (Nth name k) = IsName name × (k < 2 ^ 64)
IsLawfulStep (Target name) = IsName name

-- the first target of its text, the macros that are entered, and the call itself
abbrev pub max_site_steps : ℕ
max_site_steps = 66

pub record IsLawfulSite (site : List Step) : Type 0 where
  pub steps : All IsLawfulStep site
  pub few : length site ≤ max_site_steps

-- the bytes of the text of a lawful site
abbrev pub max_site_bytes : ℕ
max_site_bytes = 18282

-- `#` and the text of a site, as a constant: the name of a link that has none of its own
abbrev pub automatic_name : Text → Const
automatic_name site = const.Text (35 ∷ site)

-- the spot of a text in which so many macros may still be entered
pub record IsLawfulSpot (left : ℕ) (spot : Spot) : Type 0 where
  pub steps : All IsLawfulStep spot.base
  pub few : length spot.base + left < max_site_steps
