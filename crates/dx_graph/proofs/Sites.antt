-- The sites of a graph are lawful, and so their texts are short.
use Rattle.std.proofs.Common.{ℕ, suc, ◌<◌, ◌≤◌, ◌^◌, List, [], ◌∷◌, ◌++◌, length, arith, length-append, All}
use Rattle.std.proofs.lemmas.List.Elements.{All-push}
use Rattle.std.specs.Prelude.{IsTrue}
use Rattle.std.proofs.lemmas.Grind.{common_steps}
use Rattle.dx_base.specs.Object.{Tree, text as text_object, no_parts, levels, count, size}
use Rattle.dx_base.specs.ObjectLimits.{fits}
use Rattle.std.proofs.Math.Logic.{∥∥₁_map, ∥∥₁_elim}
use Rattle.std.proofs.Props.{props}
use Rattle.dx_base.specs.declared.function.Module.{Module}
use Rattle.dx_base.specs.declared.function.Module.TheVariants as module_of
use Rattle.dx_base.specs.declared.function.Effect.{Effect}
use Rattle.dx_base.specs.declared.function.Effect.TheVariants as effect_of
use Rattle.dx_base.specs.declared.function.Function.{Function}
use Rattle.dx_base.specs.declared.function.Function.TheVariants as function
use Rattle.dx_ast.specs.Classes.{Text}
use Rattle.dx_ast.specs.Lawful.{IsName, IsLawfulConst}
use Rattle.dx_ast.specs.Table.{row_of, module_row, effect_row}
use Rattle.dx_macros.specs.Site.{Step, Nth, Target, Spot}
use Rattle.dx_macros.specs.SiteBound.{AreShortSteps, IsShortStep, IsShortSite}
use Rattle.dx_macros.specs.Expansion.{spot_of_call}
use Rattle.dx_graph.specs.Graph.{Graph, IsGraph, node_at}
use Rattle.dx_graph.specs.Trails.{no_steps}
use Rattle.dx_graph.specs.Sites.{IsLawfulStep, IsLawfulSite, IsLawfulSpot, automatic_name}

-- ---- the names of the table

module_named : (m : Module) → IsName (module_row m).name
module_named module_of.Import = (omega arith, omega arith)
module_named module_of.Select = (omega arith, omega arith)
module_named module_of.Extract = (omega arith, omega arith)
module_named module_of.Replace = (omega arith, omega arith)
module_named module_of.Mark = (omega arith, omega arith)
module_named module_of.Unmark = (omega arith, omega arith)
module_named module_of.Slab = (omega arith, omega arith)
module_named module_of.Compute = (omega arith, omega arith)
module_named module_of.Statistics = (omega arith, omega arith)
module_named module_of.Histogram = (omega arith, omega arith)
module_named module_of.Collect = (omega arith, omega arith)
module_named module_of.CollectNamed = (omega arith, omega arith)
module_named module_of.CollectSeries = (omega arith, omega arith)
module_named module_of.Inquire = (omega arith, omega arith)

effect_named : (e : Effect) → IsName (effect_row e).name
effect_named effect_of.Print = (omega arith, omega arith)
effect_named effect_of.Echo = (omega arith, omega arith)
effect_named effect_of.Export = (omega arith, omega arith)
effect_named effect_of.SetLocal = (omega arith, omega arith)
effect_named effect_of.SetGlobal = (omega arith, omega arith)

pub function_named : (f : Function) → IsName (row_of f).name
function_named (function.Module m) = module_named m
function_named (function.Effect e) = effect_named e
function_named function.Switch = (omega arith, omega arith)
function_named function.Route = (omega arith, omega arith)
function_named function.GetLocal = (omega arith, omega arith)
function_named function.GetGlobal = (omega arith, omega arith)

-- ---- spots

pub no_steps_lawful : (left : ℕ) → left < 66 → IsLawfulSpot left no_steps
no_steps_lawful left h = record { steps = λ k d lt. absurd (omega (arith, lt)); few = omega (arith, h) }

-- the text of a first target
pub target_lawful : (name : Text) (left : ℕ) → left < 65 → IsName name → IsLawfulSpot left (record { base = Target name ∷ []; path = [] })
target_lawful name left h is = record { steps = All-push IsLawfulStep [] (Target name) (λ k d lt. absurd (omega (arith, lt))) is; few = omega (arith, h) }

-- one macro more is entered
pub step_lawful : (spot : Spot) (left : ℕ) (name : Text) (k : ℕ) → IsLawfulSpot (suc left) spot → IsName name → k < 2 ^ 64 → IsLawfulSpot left (spot_of_call spot (Nth name k))
step_lawful spot left name k h is small = record {
  steps = All-push IsLawfulStep spot.base (Nth name k) h.steps (is, small);
  few = omega (arith, h.few, length-append spot.base (Nth name k ∷ []));
}

pub fewer_left : (left : ℕ) (spot : Spot) → ∥ IsLawfulSpot left spot ∥₁ → ∥ IsLawfulSpot 0 spot ∥₁
fewer_left left spot h = ∥∥₁_map h (λ l. record { steps = l.steps; few = omega (arith, l.few) })

-- the call of a function in such a text
pub site_lawful : (spot : Spot) (left : ℕ) (f : Function) (k : ℕ) → IsLawfulSpot left spot → k < 2 ^ 64 → IsLawfulSite (spot.base ++ Nth (row_of f).name k ∷ [])
site_lawful spot left f k h small = record {
  steps = All-push IsLawfulStep spot.base (Nth (row_of f).name k) h.steps (function_named f, small);
  few = omega (arith, h.few, length-append spot.base (Nth (row_of f).name k ∷ []));
}

-- ---- texts

short_step : (s : Step) → IsLawfulStep s → IsShortStep s
short_step (Nth name k) h = (h.0.1, h.1)
short_step (Target name) h = h.1

short_steps : (steps : List Step) → All IsLawfulStep steps → AreShortSteps steps
short_steps [] h = tt
short_steps (s ∷ rest) h = (short_step s (h 0 s (omega arith)), short_steps rest (λ k d lt. h (suc k) d (omega (arith, lt))))

short_text : (site : List Step) (text : Text) → IsLawfulSite site → IsShortSite site text → length text ≤ 18282
short_text site text h bound = let few = h.few in let short = bound (short_steps site h.steps) in omega (arith, few, short)

pub text_short : (g : Graph) (n : ℕ) (text : Text) → ∥ IsGraph g ∥₁ → n < length g.nodes → IsShortSite (node_at g.nodes n).place.site text → length text ≤ 18282
text_short g n text all lt bound =
    ∥∥₁_elim all (hlevel props) (λ is. ∥∥₁_elim (is.nodes n lt).site (hlevel props) (λ lawful. short_text (node_at g.nodes n).place.site text lawful bound))

-- ---- the names of links

fits_by : (t : Tree) → levels t ≤ 64 → count t ≤ 1048576 → size t ≤ 268435456 → IsTrue (fits t)
fits_by t l c s = grind (arith, common_steps)

pub automatic_name_lawful : (site : Text) → length site ≤ 18282 → IsLawfulConst (automatic_name site)
automatic_name_lawful site short = record { shape = tt; value = fits_by (text_object (35 ∷ site) no_parts) (omega arith) (omega arith) (omega (arith, short)) }
