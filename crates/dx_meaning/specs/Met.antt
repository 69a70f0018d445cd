-- The calls that a tree's data meets, taken as if no error ended it, by what is told of the selectors.
use Rattle.std.specs.Prelude.{ℕ, zero, suc, List, [], ◌∷◌, ◌++◌, Option, Some, None, if◌then◌else◌}
use Rattle.dx_base.specs.declared.function.Function.{Function}
use Rattle.dx_base.specs.declared.function.Function.TheVariants as function
use Rattle.dx_base.specs.declared.function.Effect.{Effect}
use Rattle.dx_base.specs.declared.function.Effect.TheVariants as effect
use Rattle.dx_base.specs.declared.function.Module.{Module}
use Rattle.dx_base.specs.declared.function.Module.TheVariants as computing
use Rattle.dx_macros.specs.Tree.{Place, Tree, ConstantTree, ResultTree, CallTree, TreeCall, Trees, NoTree, AndTree}
use Rattle.dx_links.specs.Getting.{same_call}
use Rattle.dx_tags.specs.Closed.{ValueTerm, ResultTerm, CallTerm, CallOf, ValueTerms}
use Rattle.dx_meaning.specs.Outcome.{Value}
use Rattle.dx_meaning.specs.Picking.{Pick, PickThis, PickInput, PickOff, PickFault, pick, selector_at}
use Rattle.dx_meaning.specs.Scan.{Sight, Scanned, Forms, Ends, scanned_at, terms_in, rule_scanned, scan, scan_each}

-- a call of a module, with the term that it forms
pub record Called : Type 0 where
  pub place : Place
  pub call : CallTerm

abbrev pub met_at : List (List Called) → ℕ → List Called
met_at [] n = []
met_at (cs ∷ each) zero = cs
met_at (cs ∷ each) (suc n) = met_at each n

abbrev pub all_met : List (List Called) → List Called
all_met [] = []
all_met (cs ∷ each) = cs ++ all_met each

-- of an Import without the first, whose data counts as empty
abbrev pub arguments_met : Module → List (List Called) → List (List Called)
arguments_met computing.Import [] = []
arguments_met computing.Import (cs ∷ each) = each
arguments_met other each = each

-- the call of the term that is formed
abbrev pub own_met : Place → Scanned ValueTerm → List Called
own_met p (Forms (ResultTerm result c)) = record { place = p; call = c } ∷ []
own_met p other = []

abbrev pub picked_met : List (List Called) → Pick ValueTerm → List Called
picked_met each (PickThis t) = []
picked_met each (PickInput n) = met_at each n
picked_met each PickOff = []
picked_met each PickFault = []

abbrev pub told_met : Sight → Function → Place → ℕ → List (List Called) → Option Value → List Called
told_met s f p result each (Some v) = picked_met each (pick (terms_in s) f p result v)
told_met s f p result each None = []

abbrev pub selected_met : Sight → Function → Place → ℕ → List (List Called) → Scanned ValueTerm → List Called
selected_met s f p result each (Forms t) = told_met s f p result each (s.told t)
selected_met s f p result each (Ends e) = []

abbrev pub selector_met : Sight → Function → Place → ℕ → List (Scanned ValueTerm) → List (List Called) → List Called
selector_met s f p result ss each = selected_met s f p result each (scanned_at ss (selector_at f))

abbrev pub effect_met : Effect → List (List Called) → List Called
effect_met effect.SetLocal each = met_at each 1
effect_met effect.SetGlobal each = met_at each 1
effect_met other each = []

-- the arguments' calls come in order and before their call; another call is passed to the input that gave its outcome
abbrev pub met_rule : Sight → Function → Place → ℕ → List (Scanned ValueTerm) → List (List Called) → List Called
met_rule s (function.Module m) p result ss each = all_met (arguments_met m each) ++ own_met p (rule_scanned s (function.Module m) p result ss)
met_rule s (function.Effect e) p result ss each = effect_met e each
met_rule s function.Switch p result ss each = selector_met s function.Switch p result ss each
met_rule s function.Route p result ss each = selector_met s function.Route p result ss each
met_rule s function.GetLocal p result ss each = selector_met s function.GetLocal p result ss each
met_rule s function.GetGlobal p result ss each = selector_met s function.GetGlobal p result ss each

abbrev mutual
  pub met : Sight → Tree → List Called
  met s (ConstantTree c) = []
  met s (ResultTree result (TreeCall f p args)) = met_rule s f p result (scan_each s args) (each_met s args)

  pub each_met : Sight → Trees → List (List Called)
  each_met s NoTree = []
  each_met s (AndTree t ts) = met s t ∷ each_met s ts

-- where the first call of a term stands
abbrev pub first_place : List Called → CallTerm → Option Place
first_place [] c = None
first_place (d ∷ ds) c = if same_call d.call c then Some d.place else first_place ds c
