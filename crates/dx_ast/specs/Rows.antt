-- How the code keeps the table of functions: a list of rows, one for each function.
use Rattle.std.specs.Prelude.{List, [], ◌∷◌, map}
use Rattle.dx_base.specs.declared.function.Module.TheVariants.{Import, Select, Extract, Replace, Mark, Unmark, Slab, Compute, Statistics, Histogram, Collect, CollectNamed, CollectSeries, Inquire}
use Rattle.dx_base.specs.declared.function.Effect.TheVariants.{Print, Echo, Export, SetLocal, SetGlobal}
use Rattle.dx_base.specs.declared.function.Function.{Function}
use Rattle.dx_base.specs.declared.function.Function.TheVariants.{Module, Effect, Switch, Route, GetLocal, GetGlobal}
use Rattle.dx_ast.specs.declared.rows.Row as code
use Rattle.dx_ast.specs.Table as table

-- what the code's row says
abbrev pub said : code.Row → table.Row
said r = table.row r.name.now (map (λ p. p.now) r.params.now) r.more r.results

-- the functions in the order of their rows
abbrev pub in_order : List Function
in_order =
    Module Import ∷ Module Select ∷ Module Extract ∷ Module Replace ∷ Module Mark ∷ Module Unmark ∷ Module Slab
    ∷ Module Compute ∷ Module Statistics ∷ Module Histogram ∷ Module Collect ∷ Module CollectNamed ∷ Module CollectSeries ∷ Module Inquire
    ∷ Effect Print ∷ Effect Echo ∷ Effect Export ∷ Effect SetLocal ∷ Effect SetGlobal
    ∷ Switch ∷ Route ∷ GetLocal ∷ GetGlobal ∷ []
