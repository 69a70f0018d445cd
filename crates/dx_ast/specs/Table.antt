-- The functions that a call may name: a row for each, with its named parameters, how many further arguments it takes,
-- and how many results it has.
use Rattle.std.specs.Prelude.{ℕ, List, [], ◌∷◌, Option, find, codes}
use Rattle.std.specs.Str.{bytes_eq}
use Rattle.dx_base.specs.declared.function.Module.{Module}
use Rattle.dx_base.specs.declared.function.Module.TheVariants as computing
use Rattle.dx_base.specs.declared.function.Effect.{Effect}
use Rattle.dx_base.specs.declared.function.Effect.TheVariants as effect
use Rattle.dx_base.specs.declared.function.Function.{Function}
use Rattle.dx_base.specs.declared.function.Function.TheVariants as function
use Rattle.dx_base.specs.Modules as count

pub record Row : Type 0 where
  pub name : List ℕ
  pub params : List (List ℕ)
  pub more : ℕ
  pub results : ℕ

abbrev pub row : List ℕ → List (List ℕ) → ℕ → ℕ → Row
row name params more results = record { name = name; params = params; more = more; results = results }

abbrev pub module_row : Module → Row
module_row computing.Import = row (codes "Import") (codes "name" ∷ codes "variable" ∷ codes "format" ∷ codes "start" ∷ codes "end" ∷ codes "delta" ∷ []) (count.more computing.Import) 1
module_row computing.Select = row (codes "Select") (codes "input" ∷ codes "which" ∷ codes "except" ∷ []) (count.more computing.Select) 1
module_row computing.Extract = row (codes "Extract") (codes "input" ∷ codes "name" ∷ []) (count.more computing.Extract) 1
module_row computing.Replace = row (codes "Replace") (codes "srcfield" ∷ codes "dstfield" ∷ codes "srcname" ∷ codes "dstname" ∷ []) (count.more computing.Replace) 1
module_row computing.Mark = row (codes "Mark") (codes "input" ∷ codes "name" ∷ []) (count.more computing.Mark) 1
module_row computing.Unmark = row (codes "Unmark") (codes "input" ∷ codes "name" ∷ []) (count.more computing.Unmark) 1
module_row computing.Slab = row (codes "Slab") (codes "input" ∷ codes "dimension" ∷ codes "position" ∷ codes "thickness" ∷ []) (count.more computing.Slab) 1
module_row computing.Compute = row (codes "Compute") (codes "expression" ∷ []) (count.more computing.Compute) 1
module_row computing.Statistics = row (codes "Statistics") (codes "data" ∷ []) (count.more computing.Statistics) 5
module_row computing.Histogram = row (codes "Histogram") (codes "data" ∷ codes "bins" ∷ codes "min" ∷ codes "max" ∷ codes "out" ∷ []) (count.more computing.Histogram) 2
module_row computing.Collect = row (codes "Collect") (codes "object" ∷ []) (count.more computing.Collect) 1
module_row computing.CollectNamed = row (codes "CollectNamed") (codes "object" ∷ codes "name" ∷ []) (count.more computing.CollectNamed) 1
module_row computing.CollectSeries = row (codes "CollectSeries") (codes "object" ∷ codes "position" ∷ []) (count.more computing.CollectSeries) 1
module_row computing.Inquire = row (codes "Inquire") (codes "input" ∷ codes "inquiry" ∷ codes "value" ∷ []) (count.more computing.Inquire) 1

abbrev pub effect_row : Effect → Row
effect_row effect.Print = row (codes "Print") (codes "object" ∷ codes "options" ∷ codes "component" ∷ []) 0 0
effect_row effect.Echo = row (codes "Echo") (codes "string" ∷ []) 63 0
effect_row effect.Export = row (codes "Export") (codes "object" ∷ codes "name" ∷ codes "format" ∷ []) 0 0
effect_row effect.SetLocal = row (codes "SetLocal") (codes "object" ∷ codes "link" ∷ []) 0 1
effect_row effect.SetGlobal = row (codes "SetGlobal") (codes "object" ∷ codes "link" ∷ []) 0 1

abbrev pub row_of : Function → Row
row_of (function.Module m) = module_row m
row_of (function.Effect e) = effect_row e
row_of function.Switch = row (codes "Switch") (codes "selector" ∷ codes "input" ∷ []) 62 1
row_of function.Route = row (codes "Route") (codes "selector" ∷ codes "input" ∷ []) 0 64
row_of function.GetLocal = row (codes "GetLocal") (codes "initial" ∷ codes "link" ∷ []) 0 2
row_of function.GetGlobal = row (codes "GetGlobal") (codes "initial" ∷ codes "link" ∷ []) 0 2

-- those that do something, those that choose, and the modules
abbrev pub functions : List Function
functions =
    function.Effect effect.Print ∷ function.Effect effect.Echo ∷ function.Effect effect.Export ∷ function.Effect effect.SetLocal ∷ function.Effect effect.SetGlobal ∷
    function.Switch ∷ function.Route ∷ function.GetLocal ∷ function.GetGlobal ∷
    function.Module computing.Import ∷ function.Module computing.Select ∷ function.Module computing.Extract ∷ function.Module computing.Replace ∷
    function.Module computing.Mark ∷ function.Module computing.Unmark ∷ function.Module computing.Slab ∷ function.Module computing.Compute ∷
    function.Module computing.Statistics ∷ function.Module computing.Histogram ∷ function.Module computing.Collect ∷
    function.Module computing.CollectNamed ∷ function.Module computing.CollectSeries ∷ function.Module computing.Inquire ∷ []

-- the one of that name among these
abbrev pub named_among : List ℕ → List Function → Option Function
named_among name = find (λ f. bytes_eq (row_of f).name name)

-- the one of that name
abbrev pub function_named : List ℕ → Option Function
function_named name = named_among name functions
