-- The code's steps as steps.
use Rattle.std.specs.Prelude.{List, [], ◌∷◌, ◌++◌, map, Bool, true, false}
use Rattle.dx_ast.specs.Classes.{Text}
use Rattle.dx_macros.specs.Site as site
use Rattle.dx_macros.specs.declared.site.SiteStep.{SiteStep}
use Rattle.dx_macros.specs.declared.site.SiteStep.TheVariants as step

abbrev pub plain_step : SiteStep → site.Step
plain_step (step.Nth name k) = site.Nth name.now k
plain_step (step.Target name) = site.Target name.now

abbrev pub plain_steps : List SiteStep → List site.Step
plain_steps steps = map plain_step steps

-- the text of these steps, behind others or as the first
abbrev pub joined : Bool → List site.Step → Text
joined is_first [] = []
joined true (s ∷ rest) = site.step_text s ++ joined false rest
joined false (s ∷ rest) = 47 ∷ site.step_text s ++ joined false rest
