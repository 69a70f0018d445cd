-- The selectors that looking at a tree meets, in order, by the values that are told of terms. Each is got before what its value
-- leads to is looked at.
use Rattle.std.specs.Prelude.{ℕ, zero, suc, List, [], ◌∷◌, ◌++◌, Option, Some, None}
use Rattle.dx_base.specs.declared.function.Function.{Function}
use Rattle.dx_base.specs.declared.function.Function.TheVariants as function
use Rattle.dx_base.specs.declared.function.Effect.{Effect}
use Rattle.dx_base.specs.declared.function.Effect.TheVariants as effect
use Rattle.dx_base.specs.declared.function.Module.{Module}
use Rattle.dx_base.specs.declared.function.Module.TheVariants as computing
use Rattle.dx_macros.specs.Tree.{Place, Tree, ConstantTree, ResultTree, TreeCall, Trees, NoTree, AndTree}
use Rattle.dx_tags.specs.Closed.{ValueTerm}
use Rattle.dx_meaning.specs.Outcome.{Value}
use Rattle.dx_meaning.specs.Picking.{Pick, PickThis, PickInput, PickOff, PickFault, pick, selector_at}
use Rattle.dx_meaning.specs.Scan.{Sight, Scanned, Forms, Ends, scanned_at, terms_in, scan_each}

-- ---- the inputs of a call

-- those of input number n; past the end there are none
abbrev pub selectors_at : List (List ValueTerm) → ℕ → List ValueTerm
selectors_at [] n = []
selectors_at (ts ∷ each) zero = ts
selectors_at (ts ∷ each) (suc n) = selectors_at each n

-- nothing is looked at behind an input that forms no term
abbrev pub selectors_beside : Scanned ValueTerm → List ValueTerm → List ValueTerm → List ValueTerm
selectors_beside (Forms t) own rest = own ++ rest
selectors_beside (Ends e) own rest = own

abbrev pub all_selectors : List (Scanned ValueTerm) → List (List ValueTerm) → List ValueTerm
all_selectors [] each = []
all_selectors (x ∷ xs) [] = []
all_selectors (x ∷ xs) (ts ∷ each) = selectors_beside x ts (all_selectors xs each)

-- those of all inputs but the first
abbrev pub rest_selectors : List (Scanned ValueTerm) → List (List ValueTerm) → List ValueTerm
rest_selectors [] each = []
rest_selectors (x ∷ xs) [] = []
rest_selectors (x ∷ xs) (ts ∷ each) = all_selectors xs each

-- ---- a call that looks at a selector

abbrev pub told_selectors : Option Value → (Value → List ValueTerm) → List ValueTerm
told_selectors (Some v) go = go v
told_selectors None go = []

-- its own, then it, and then those of what its value leads to
abbrev pub got_selectors : Sight → Scanned ValueTerm → (Value → List ValueTerm) → List ValueTerm
got_selectors s (Forms t) go = t ∷ told_selectors (s.told t) go
got_selectors s (Ends e) go = []

abbrev pub selector_first : Sight → Function → List (Scanned ValueTerm) → List (List ValueTerm) → (Value → List ValueTerm) → List ValueTerm
selector_first s f xs each go = selectors_at each (selector_at f) ++ got_selectors s (scanned_at xs (selector_at f)) go

abbrev pub picked_selectors : List (List ValueTerm) → Pick ValueTerm → List ValueTerm
picked_selectors each (PickThis t) = []
picked_selectors each (PickInput n) = selectors_at each n
picked_selectors each PickOff = []
picked_selectors each PickFault = []

abbrev pub picking_selectors : Sight → Function → Place → ℕ → List (Scanned ValueTerm) → List (List ValueTerm) → List ValueTerm
picking_selectors s f p result xs each = selector_first s f xs each (λ v. picked_selectors each (pick (terms_in s) f p result v))

-- ---- rules

-- the name of an Import is got before its other arguments are looked at
abbrev pub module_selectors : Sight → Module → List (Scanned ValueTerm) → List (List ValueTerm) → List ValueTerm
module_selectors s computing.Import xs each = selector_first s (function.Module computing.Import) xs each (λ v. rest_selectors xs each)
module_selectors s other xs each = all_selectors xs each

abbrev pub effect_selectors : Effect → List (List ValueTerm) → List ValueTerm
effect_selectors effect.SetLocal each = selectors_at each 1
effect_selectors effect.SetGlobal each = selectors_at each 1
effect_selectors other each = []

abbrev pub rule_selectors : Sight → Function → Place → ℕ → List (Scanned ValueTerm) → List (List ValueTerm) → List ValueTerm
rule_selectors s (function.Module m) p result xs each = module_selectors s m xs each
rule_selectors s (function.Effect e) p result xs each = effect_selectors e each
rule_selectors s function.Switch p result xs each = picking_selectors s function.Switch p result xs each
rule_selectors s function.Route p result xs each = picking_selectors s function.Route p result xs each
rule_selectors s function.GetLocal p result xs each = picking_selectors s function.GetLocal p result xs each
rule_selectors s function.GetGlobal p result xs each = picking_selectors s function.GetGlobal p result xs each

-- ---- trees

abbrev mutual
  pub selectors : Sight → Tree → List ValueTerm
  selectors s (ConstantTree c) = []
  selectors s (ResultTree result (TreeCall f p args)) = rule_selectors s f p result (scan_each s args) (selectors_each s args)

  pub selectors_each : Sight → Trees → List (List ValueTerm)
  selectors_each s NoTree = []
  selectors_each s (AndTree t ts) = selectors s t ∷ selectors_each s ts

-- at the arguments of an effect
abbrev pub selectors_all : Sight → Trees → List ValueTerm
selectors_all s args = all_selectors (scan_each s args) (selectors_each s args)
