-- The calls that the data of a selector meets, where looking at a tree ends as its value isn't told.
use Rattle.std.specs.Prelude.{ℕ, List, [], ◌∷◌, Option, Some, None}
use Rattle.dx_base.specs.declared.function.Function.{Function}
use Rattle.dx_base.specs.declared.function.Function.TheVariants as function
use Rattle.dx_base.specs.declared.function.Module.{Module}
use Rattle.dx_base.specs.declared.function.Module.TheVariants as computing
use Rattle.dx_macros.specs.Tree.{Place, Tree, ConstantTree, ResultTree, TreeCall, Trees, NoTree, AndTree}
use Rattle.dx_tags.specs.Closed.{ValueTerm}
use Rattle.dx_meaning.specs.Outcome.{Value}
use Rattle.dx_meaning.specs.Picking.{pick, selector_at}
use Rattle.dx_meaning.specs.Scan.{Sight, Scanned, Forms, Ends, scanned_at, terms_in, scan_each}
use Rattle.dx_meaning.specs.Met.{Called, met_at, picked_met, effect_met, each_met}

-- of the first input that forms no term
abbrev pub halted_beside : Scanned ValueTerm → List Called → List Called → List Called
halted_beside (Forms t) own rest = rest
halted_beside (Ends e) own rest = own

abbrev pub all_halted : List (Scanned ValueTerm) → List (List Called) → List Called
all_halted [] each = []
all_halted (x ∷ xs) [] = []
all_halted (x ∷ xs) (cs ∷ each) = halted_beside x cs (all_halted xs each)

-- of a selector whose value isn't told, else of what its value leads to
abbrev pub told_halted : Option Value → List Called → (Value → List Called) → List Called
told_halted (Some v) own go = go v
told_halted None own go = own

abbrev pub selected_halted : Sight → Scanned ValueTerm → (within own : List Called) → (Value → List Called) → List Called
selected_halted s (Forms t) within own go = told_halted (s.told t) own go
selected_halted s (Ends e) within own go = within

abbrev pub selector_halted : Sight → Function → List (Scanned ValueTerm) → (mets halts : List (List Called)) → (Value → List Called) → List Called
selector_halted s f xs mets halts go = selected_halted s (scanned_at xs (selector_at f)) (met_at halts (selector_at f)) (met_at mets (selector_at f)) go

abbrev pub picking_halted : Sight → Function → Place → ℕ → List (Scanned ValueTerm) → (mets halts : List (List Called)) → List Called
picking_halted s f p result xs mets halts = selector_halted s f xs mets halts (λ v. picked_met halts (pick (terms_in s) f p result v))

abbrev pub module_halted : Sight → Module → List (Scanned ValueTerm) → (mets halts : List (List Called)) → List Called
module_halted s computing.Import xs mets halts = selector_halted s (function.Module computing.Import) xs mets halts (λ v. all_halted xs halts)
module_halted s other xs mets halts = all_halted xs halts

abbrev pub rule_halted : Sight → Function → Place → ℕ → List (Scanned ValueTerm) → (mets halts : List (List Called)) → List Called
rule_halted s (function.Module m) p result xs mets halts = module_halted s m xs mets halts
rule_halted s (function.Effect e) p result xs mets halts = effect_met e halts
rule_halted s function.Switch p result xs mets halts = picking_halted s function.Switch p result xs mets halts
rule_halted s function.Route p result xs mets halts = picking_halted s function.Route p result xs mets halts
rule_halted s function.GetLocal p result xs mets halts = picking_halted s function.GetLocal p result xs mets halts
rule_halted s function.GetGlobal p result xs mets halts = picking_halted s function.GetGlobal p result xs mets halts

abbrev mutual
  pub halted_met : Sight → Tree → List Called
  halted_met s (ConstantTree c) = []
  halted_met s (ResultTree result (TreeCall f p args)) = rule_halted s f p result (scan_each s args) (each_met s args) (each_halted s args)

  pub each_halted : Sight → Trees → List (List Called)
  each_halted s NoTree = []
  each_halted s (AndTree t ts) = halted_met s t ∷ each_halted s ts

-- at the arguments of an effect
abbrev pub halted_all : Sight → Trees → List Called
halted_all s args = all_halted (scan_each s args) (each_halted s args)
