-- Looking that ends at a selector ends there by more too, where that doesn't tell it either.
use Rattle.std.proofs.Common.{◌≡◌, ℕ, zero, suc, List, ◌++◌, Option, Some, None, refl, ap, subst}
use Rattle.dx_base.specs.declared.function.Function.{Function}
use Rattle.dx_base.specs.declared.function.Function.TheVariants as function
use Rattle.dx_base.specs.declared.function.Module.{Module}
use Rattle.dx_base.specs.declared.function.Module.TheVariants as computing
use Rattle.dx_base.specs.declared.function.Effect.{Effect}
use Rattle.dx_base.specs.declared.function.Effect.TheVariants as effect
use Rattle.dx_macros.specs.Tree.{Place, Tree, ConstantTree, ResultTree, TreeCall, Trees, NoTree, AndTree}
use Rattle.dx_tags.specs.Closed.{ValueTerm, ValueTerms}
use Rattle.dx_meaning.specs.Outcome.{Value}
use Rattle.dx_meaning.specs.Picking.{Pick, PickThis, PickInput, PickOff, PickFault, pick, selector_at}
use Rattle.dx_meaning.specs.Scan.{Sight, IsOff, Stops, Needs, Scanned, Forms, Ends, scanned_beside, all_scanned, scanned_at, call_scanned, written_for, picked_scanned, terms_in, valued, told_scanned, selected, selector_scanned, effect_scanned, module_scanned, rule_scanned, scan, scan_each}
use Rattle.dx_meaning.specs.More.{More, Keeps}
use Rattle.dx_meaning.specs.Forming.{Formed, forms_at, forms_beside, all_forms, call_forms, called_forms, forms_in, picked_forms, valued_forms, told_forms, selected_forms, selector_forms, effect_forms, module_forms, rule_forms, forms, each_forms, FormsKeep}
use Rattle.dx_meaning.proofs.Keeping.{at_keeps, scan_keeps, each_keeps, same_terms, same_file}
use Rattle.dx_meaning.proofs.FormsStaying.{PicksAlike, pick_alike, forms_at_keep, forms_keep, each_forms_keep, same_forms}
use Rattle.dx_resuming.specs.Halting.{HaltKept, HaltsAlike, AllHaltsAlike}

module _ (told full : Sight) (m : More told full) where
  -- behind what is formed the same
  halt_behind : {A : Type 0} (x b : Scanned A) (own fs gs : List Formed) → HaltKept full x b fs gs → HaltKept full x b (own ++ fs) (own ++ gs)
  halt_behind (Forms x) b own fs gs k = tt
  halt_behind (Ends IsOff) b own fs gs k = tt
  halt_behind (Ends (Stops site code)) b own fs gs k = tt
  halt_behind (Ends (Needs site u)) b own fs gs k = λ e. ((k e).0, ap (λ y. own ++ y) (k e).1)

  -- ---- inputs

  abbrev EachHalts : Trees → Type 0
  EachHalts NoTree = Unit {0}
  EachHalts (AndTree t ts) = HaltKept full (scan told t) (scan full t) (forms told t) (forms full t) × EachHalts ts

  at_halts : (ts : Trees) → EachHalts ts → (n : ℕ) → HaltKept full (scanned_at (scan_each told ts) n) (scanned_at (scan_each full ts) n) (forms_at (each_forms told ts) n) (forms_at (each_forms full ts) n)
  at_halts NoTree h n = tt
  at_halts (AndTree t ts) h zero = h.0
  at_halts (AndTree t ts) h (suc n) = at_halts ts h.1 n

  beside_halts : (x x' : Scanned ValueTerm) (r r' : Scanned ValueTerms) (fs gs rest rest' : List Formed) → Keeps x x' → FormsKeep x fs gs → HaltKept full x x' fs gs → HaltKept full r r' rest rest' →
      HaltKept full (scanned_beside x r) (scanned_beside x' r') (forms_beside x fs rest) (forms_beside x' gs rest')
  beside_halts (Ends IsOff) x' r r' fs gs rest rest' k f p q = tt
  beside_halts (Ends (Stops site code)) x' r r' fs gs rest rest' k f p q = tt
  beside_halts (Ends (Needs site u)) x' r r' fs gs rest rest' k f p q = λ e. (λ i. scanned_beside ((p e).0 i) r', λ i. forms_beside ((p e).0 i) ((p e).1 i) rest')
  beside_halts (Forms t) x' (Forms ts) r' fs gs rest rest' k f p q = tt
  beside_halts (Forms t) x' (Ends IsOff) r' fs gs rest rest' k f p q = tt
  beside_halts (Forms t) x' (Ends (Stops site code)) r' fs gs rest rest' k f p q = tt
  beside_halts (Forms t) x' (Ends (Needs site u)) r' fs gs rest rest' k f p q = λ e. (λ i. scanned_beside (k i) ((q e).0 i), λ i. forms_beside (k i) (f i) ((q e).1 i))

  all_halt : (ts : Trees) → EachHalts ts →
      HaltKept full (all_scanned (scan_each told ts)) (all_scanned (scan_each full ts)) (all_forms (scan_each told ts) (each_forms told ts)) (all_forms (scan_each full ts) (each_forms full ts))
  all_halt NoTree h = tt
  all_halt (AndTree t ts) h =
      beside_halts (scan told t) (scan full t) (all_scanned (scan_each told ts)) (all_scanned (scan_each full ts)) (forms told t) (forms full t)
      (all_forms (scan_each told ts) (each_forms told ts)) (all_forms (scan_each full ts) (each_forms full ts)) (scan_keeps told full m t) (forms_keep told full m t) h.0 (all_halt ts h.1)

  -- ---- a call of a module

  call_halts : (p : Place) (mo : Module) (file : Option (List ℕ)) (result : ℕ) (r r' : Scanned ValueTerms) (fs gs : List Formed) → HaltKept full r r' fs gs →
      HaltKept full (call_scanned mo file result r) (call_scanned mo file result r') (fs ++ call_forms p mo file r) (gs ++ call_forms p mo file r')
  call_halts p mo file result (Forms ts) r' fs gs q = tt
  call_halts p mo file result (Ends IsOff) r' fs gs q = tt
  call_halts p mo file result (Ends (Stops site code)) r' fs gs q = tt
  call_halts p mo file result (Ends (Needs site u)) r' fs gs q = λ e. (λ i. call_scanned mo file result ((q e).0 i), λ i. (q e).1 i ++ call_forms p mo file ((q e).0 i))

  called_halts : (p : Place) (mo : Module) (file : Option (List ℕ)) (result : ℕ) (ts : Trees) → EachHalts ts →
      HaltKept full (call_scanned mo file result (all_scanned (scan_each told ts))) (call_scanned mo file result (all_scanned (scan_each full ts)))
      (called_forms p mo file (scan_each told ts) (each_forms told ts)) (called_forms p mo file (scan_each full ts) (each_forms full ts))
  called_halts p mo file result ts h =
      call_halts p mo file result (all_scanned (scan_each told ts)) (all_scanned (scan_each full ts)) (all_forms (scan_each told ts) (each_forms told ts)) (all_forms (scan_each full ts) (each_forms full ts)) (all_halt ts h)

  -- ---- a call that looks at a selector

  picked_halts : (p : Place) (ts : Trees) → EachHalts ts → (k : Pick ValueTerm) (j : Pick (List Formed)) → PicksAlike k j →
      HaltKept full (picked_scanned p (scan_each told ts) k) (picked_scanned p (scan_each full ts) k) (picked_forms (each_forms told ts) j) (picked_forms (each_forms full ts) j)
  picked_halts p ts h (PickThis t) (PickThis fs) a = tt
  picked_halts p ts h (PickInput n) (PickInput k) a =
      subst (λ x. HaltKept full (scanned_at (scan_each told ts) n) (scanned_at (scan_each full ts) n) (forms_at (each_forms told ts) x) (forms_at (each_forms full ts) x)) a (at_halts ts h n)
  picked_halts p ts h PickOff PickOff a = tt
  picked_halts p ts h PickFault PickFault a = tt
  picked_halts p ts h (PickThis t) (PickInput k) a = absurd a
  picked_halts p ts h (PickThis t) PickOff a = absurd a
  picked_halts p ts h (PickThis t) PickFault a = absurd a
  picked_halts p ts h (PickInput n) (PickThis fs) a = absurd a
  picked_halts p ts h (PickInput n) PickOff a = absurd a
  picked_halts p ts h (PickInput n) PickFault a = absurd a
  picked_halts p ts h PickOff (PickThis fs) a = absurd a
  picked_halts p ts h PickOff (PickInput k) a = absurd a
  picked_halts p ts h PickOff PickFault a = absurd a
  picked_halts p ts h PickFault (PickThis fs) a = absurd a
  picked_halts p ts h PickFault (PickInput k) a = absurd a
  picked_halts p ts h PickFault PickOff a = absurd a

  -- the same is picked by both
  pick_halts : (f : Function) (p : Place) (result : ℕ) (ts : Trees) → EachHalts ts → (v : Value) →
      HaltKept full (picked_scanned p (scan_each told ts) (pick (terms_in told) f p result v)) (picked_scanned p (scan_each full ts) (pick (terms_in full) f p result v))
      (picked_forms (each_forms told ts) (pick (forms_in told) f p result v)) (picked_forms (each_forms full ts) (pick (forms_in full) f p result v))
  pick_halts f p result ts h v = rw (same_terms told full m, same_forms told full m)
      (picked_halts p ts h (pick (terms_in told) f p result v) (pick (forms_in told) f p result v) (pick_alike told f p result v))

  valued_halts : (f : Function) (p : Place) (result : ℕ) (ts : Trees) → EachHalts ts → (v : Value) →
      HaltKept full (valued told f p result (scan_each told ts) v) (valued full f p result (scan_each full ts) v)
      (valued_forms told f p result (scan_each told ts) (each_forms told ts) v) (valued_forms full f p result (scan_each full ts) (each_forms full ts) v)
  valued_halts (function.Module mo) p result ts h v = rw (same_file told full m v) (called_halts p mo (written_for told v) result ts h)
  valued_halts (function.Effect e) p result ts h v = pick_halts (function.Effect e) p result ts h v
  valued_halts function.Switch p result ts h v = pick_halts function.Switch p result ts h v
  valued_halts function.Route p result ts h v = pick_halts function.Route p result ts h v
  valued_halts function.GetLocal p result ts h v = pick_halts function.GetLocal p result ts h v
  valued_halts function.GetGlobal p result ts h v = pick_halts function.GetGlobal p result ts h v

  told_halts : (f : Function) (p : Place) (result : ℕ) (ts : Trees) → EachHalts ts → (t : ValueTerm) (o : Option Value) → ((v : Value) → o ≡ Some v → full.told t ≡ Some v) →
      HaltKept full (told_scanned told f p result (scan_each told ts) t o) (told_scanned full f p result (scan_each full ts) t (full.told t))
      (told_forms told f p result (scan_each told ts) (each_forms told ts) o) (told_forms full f p result (scan_each full ts) (each_forms full ts) (full.told t))
  told_halts f p result ts h t None w = λ e.
      (λ i. told_scanned full f p result (scan_each full ts) t (e i), λ i. told_forms full f p result (scan_each full ts) (each_forms full ts) (e i))
  told_halts f p result ts h t (Some v) w = rw (w v refl) (valued_halts f p result ts h v)

  selected_halts : (f : Function) (p : Place) (result : ℕ) (ts : Trees) → EachHalts ts → (a a' : Scanned ValueTerm) (fs gs : List Formed) → Keeps a a' → FormsKeep a fs gs → HaltKept full a a' fs gs →
      HaltKept full (selected told f p result (scan_each told ts) a) (selected full f p result (scan_each full ts) a')
      (fs ++ selected_forms told f p result (scan_each told ts) (each_forms told ts) a) (gs ++ selected_forms full f p result (scan_each full ts) (each_forms full ts) a')
  selected_halts f p result ts h (Forms t) a' fs gs x y q = rw (x, y)
      (halt_behind (told_scanned told f p result (scan_each told ts) t (told.told t)) (told_scanned full f p result (scan_each full ts) t (full.told t)) fs
      (told_forms told f p result (scan_each told ts) (each_forms told ts) (told.told t)) (told_forms full f p result (scan_each full ts) (each_forms full ts) (full.told t))
      (told_halts f p result ts h t (told.told t) (m.told t)))
  selected_halts f p result ts h (Ends IsOff) a' fs gs x y q = tt
  selected_halts f p result ts h (Ends (Stops site code)) a' fs gs x y q = tt
  selected_halts f p result ts h (Ends (Needs site u)) a' fs gs x y q = λ e.
      (λ i. selected full f p result (scan_each full ts) ((q e).0 i), λ i. (q e).1 i ++ selected_forms full f p result (scan_each full ts) (each_forms full ts) ((q e).0 i))

  selector_halts : (f : Function) (p : Place) (result : ℕ) (ts : Trees) → EachHalts ts →
      HaltKept full (selector_scanned told f p result (scan_each told ts)) (selector_scanned full f p result (scan_each full ts))
      (selector_forms told f p result (scan_each told ts) (each_forms told ts)) (selector_forms full f p result (scan_each full ts) (each_forms full ts))
  selector_halts f p result ts h =
      let n = selector_at f in
      selected_halts f p result ts h (scanned_at (scan_each told ts) n) (scanned_at (scan_each full ts) n) (forms_at (each_forms told ts) n) (forms_at (each_forms full ts) n)
      (at_keeps (scan_each told ts) (scan_each full ts) (each_keeps told full m ts) n) (forms_at_keep (scan_each told ts) (each_forms told ts) (each_forms full ts) (each_forms_keep told full m ts) n) (at_halts ts h n)

  -- ---- rules

  effect_halts : (e : Effect) (ts : Trees) → EachHalts ts → HaltKept full (effect_scanned e (scan_each told ts)) (effect_scanned e (scan_each full ts)) (effect_forms e (each_forms told ts)) (effect_forms e (each_forms full ts))
  effect_halts effect.SetLocal ts h = at_halts ts h 1
  effect_halts effect.SetGlobal ts h = at_halts ts h 1
  effect_halts effect.Print ts h = tt
  effect_halts effect.Echo ts h = tt
  effect_halts effect.Export ts h = tt

  module_halts : (mo : Module) (p : Place) (result : ℕ) (ts : Trees) → EachHalts ts →
      HaltKept full (module_scanned told mo p result (scan_each told ts)) (module_scanned full mo p result (scan_each full ts))
      (module_forms told mo p result (scan_each told ts) (each_forms told ts)) (module_forms full mo p result (scan_each full ts) (each_forms full ts))
  module_halts computing.Import p result ts h = selector_halts (function.Module computing.Import) p result ts h
  module_halts computing.Select p result ts h = called_halts p computing.Select None result ts h
  module_halts computing.Extract p result ts h = called_halts p computing.Extract None result ts h
  module_halts computing.Replace p result ts h = called_halts p computing.Replace None result ts h
  module_halts computing.Mark p result ts h = called_halts p computing.Mark None result ts h
  module_halts computing.Unmark p result ts h = called_halts p computing.Unmark None result ts h
  module_halts computing.Slab p result ts h = called_halts p computing.Slab None result ts h
  module_halts computing.Compute p result ts h = called_halts p computing.Compute None result ts h
  module_halts computing.Statistics p result ts h = called_halts p computing.Statistics None result ts h
  module_halts computing.Histogram p result ts h = called_halts p computing.Histogram None result ts h
  module_halts computing.Collect p result ts h = called_halts p computing.Collect None result ts h
  module_halts computing.CollectNamed p result ts h = called_halts p computing.CollectNamed None result ts h
  module_halts computing.CollectSeries p result ts h = called_halts p computing.CollectSeries None result ts h
  module_halts computing.Inquire p result ts h = called_halts p computing.Inquire None result ts h

  rule_halts : (f : Function) (p : Place) (result : ℕ) (ts : Trees) → EachHalts ts →
      HaltKept full (rule_scanned told f p result (scan_each told ts)) (rule_scanned full f p result (scan_each full ts))
      (rule_forms told f p result (scan_each told ts) (each_forms told ts)) (rule_forms full f p result (scan_each full ts) (each_forms full ts))
  rule_halts (function.Module mo) p result ts h = module_halts mo p result ts h
  rule_halts (function.Effect e) p result ts h = effect_halts e ts h
  rule_halts function.Switch p result ts h = selector_halts function.Switch p result ts h
  rule_halts function.Route p result ts h = selector_halts function.Route p result ts h
  rule_halts function.GetLocal p result ts h = selector_halts function.GetLocal p result ts h
  rule_halts function.GetGlobal p result ts h = selector_halts function.GetGlobal p result ts h

  -- ---- trees

  mutual
    tree_halts : (t : Tree) → HaltKept full (scan told t) (scan full t) (forms told t) (forms full t)
    tree_halts (ConstantTree c) = tt
    tree_halts (ResultTree result (TreeCall f p args)) = rule_halts f p result args (each_halts args)

    each_halts : (ts : Trees) → EachHalts ts
    each_halts NoTree = tt
    each_halts (AndTree t ts) = (tree_halts t, each_halts ts)

pub halts_alike : HaltsAlike
halts_alike told full m t = tree_halts told full m t

pub all_halts_alike : AllHaltsAlike
all_halts_alike told full m ts = all_halt told full m ts (each_halts told full m ts)
