-- Where its selectors are ready, the names of Imports that a tree's term rests on are ready.
use Rattle.std.proofs.Common.{◌≡◌, ℕ, zero, suc, List, [], ◌∷◌, ◌++◌, Option, Some, None, refl, sym, ◌∙◌, subst}
use Rattle.dx_base.specs.declared.function.Function.{Function}
use Rattle.dx_base.specs.declared.function.Function.TheVariants as function
use Rattle.dx_base.specs.declared.function.Module.{Module}
use Rattle.dx_base.specs.declared.function.Module.TheVariants as computing
use Rattle.dx_base.specs.declared.function.Effect.{Effect}
use Rattle.dx_base.specs.declared.function.Effect.TheVariants as effect
use Rattle.dx_macros.specs.Tree.{Place, Tree, ConstantTree, ResultTree, TreeCall, Trees, NoTree, AndTree}
use Rattle.dx_tags.specs.Closed.{ValueTerm, ValueTerms}
use Rattle.dx_machine.specs.Machine.{Frame, State}
use Rattle.dx_meaning.specs.Outcome.{Value}
use Rattle.dx_meaning.specs.Picking.{Pick, PickThis, PickInput, PickOff, PickFault, pick, selector_at}
use Rattle.dx_meaning.specs.Scan.{Sight, Scanned, Forms, Ends, all_scanned, scanned_at, picked_scanned, terms_in, valued, told_scanned, selected, selector_scanned, effect_scanned, module_scanned, rule_scanned, scan, scan_each}
use Rattle.dx_meaning.proofs.MetStaying.{beside_forms, module_formed_all}
use Rattle.dx_performing.specs.Selectors.{selectors_at, selectors_beside, all_selectors, told_selectors, got_selectors, picked_selectors, picking_selectors, module_selectors, effect_selectors, rule_selectors, selectors, selectors_each}
use Rattle.dx_demanded.specs.Ordered.{AreReady, all_names, name_of, import_names, module_names, picking_names, selector_names, rule_names, names, names_each}
use Rattle.dx_demanded.proofs.Ready.{ready_append, ready_front}

ready_behind : (k : Frame) (st : State) (ts us : List ValueTerm) → AreReady k st (ts ++ us) → AreReady k st us
ready_behind k st [] us h = h
ready_behind k st (t ∷ ts) us h = ready_behind k st ts us h.1

module _ (k : Frame) (st : State) (s : Sight) where
  -- an input that forms a term
  abbrev NamesReady : Scanned ValueTerm → List ValueTerm → List ValueTerm → Type 0
  NamesReady x own its = (t : ValueTerm) → x ≡ Forms t → AreReady k st own → AreReady k st its

  pub record Inputs (xs : List (Scanned ValueTerm)) (each its : List (List ValueTerm)) : Type 0 where
    pub at : (m : ℕ) (t : ValueTerm) → scanned_at xs m ≡ Forms t → AreReady k st (selectors_at each m) → AreReady k st (selectors_at its m)
    pub all : (ts : ValueTerms) → all_scanned xs ≡ Forms ts → AreReady k st (all_selectors xs each) → AreReady k st (all_names its)
    pub named : (ts : ValueTerms) → all_scanned xs ≡ Forms ts → (v : Value) (t : ValueTerm) → scanned_at xs 0 ≡ Forms t → s.told t ≡ Some v → AreReady k st (module_selectors s computing.Import xs each) → AreReady k st (import_names xs its)

  module _ (xs : List (Scanned ValueTerm)) (each its : List (List ValueTerm)) (i : Inputs xs each its) where
    -- a selector has a value, where its call forms a term
    picked_ready : (p : Place) (c : Pick ValueTerm) (t : ValueTerm) → picked_scanned p xs c ≡ Forms t → AreReady k st (picked_selectors each c) → AreReady k st (picked_selectors its c)
    picked_ready p (PickThis u) t e h = tt
    picked_ready p (PickInput m) t e h = i.at m t e h
    picked_ready p PickOff t e h = tt
    picked_ready p PickFault t e h = tt

    picking_ready : (f : Function) (p : Place) (result : ℕ) (own : List ValueTerm) (t : ValueTerm) (x : Scanned ValueTerm) → ((v : Value) → valued s f p result xs v ≡ picked_scanned p xs (pick (terms_in s) f p result v)) → selected s f p result xs x ≡ Forms t →
        AreReady k st (own ++ got_selectors s x (λ v. picked_selectors each (pick (terms_in s) f p result v))) → AreReady k st (picking_names s x (λ v. picked_selectors its (pick (terms_in s) f p result v)))
    picking_ready f p result own t (Ends e) q g h = tt
    picking_ready f p result own t (Forms u) q g h = by (s.told u) g (ready_behind k st own (u ∷ told_selectors (s.told u) (λ v. picked_selectors each (pick (terms_in s) f p result v))) h).1
      where
        by : (o : Option Value) → told_scanned s f p result xs u o ≡ Forms t → AreReady k st (told_selectors o (λ v. picked_selectors each (pick (terms_in s) f p result v))) → AreReady k st (told_selectors o (λ v. picked_selectors its (pick (terms_in s) f p result v)))
        by None g' h' = tt
        by (Some v) g' h' = picked_ready p (pick (terms_in s) f p result v) t (sym (q v) ∙ g') h'

    selector_ready : (f : Function) (p : Place) (result : ℕ) (t : ValueTerm) → ((v : Value) → valued s f p result xs v ≡ picked_scanned p xs (pick (terms_in s) f p result v)) → selector_scanned s f p result xs ≡ Forms t →
        AreReady k st (picking_selectors s f p result xs each) → AreReady k st (selector_names s f p result xs its)
    selector_ready f p result t q g h = picking_ready f p result (selectors_at each (selector_at f)) t (scanned_at xs (selector_at f)) q g h

    import_ready : (p : Place) (result : ℕ) (t : ValueTerm) (x : Scanned ValueTerm) → scanned_at xs 0 ≡ x → selected s (function.Module computing.Import) p result xs x ≡ Forms t → (ts : ValueTerms) → all_scanned xs ≡ Forms ts → AreReady k st (module_selectors s computing.Import xs each) → AreReady k st (import_names xs its)
    import_ready p result t (Ends e) q g ts all h = cc
    import_ready p result t (Forms u) q g ts all h = by (s.told u) refl g
      where
        by : (o : Option Value) → s.told u ≡ o → told_scanned s (function.Module computing.Import) p result xs u o ≡ Forms t → AreReady k st (import_names xs its)
        by None e g' = cc
        by (Some v) e g' = i.named ts all v u q e h

    module_ready : (m : Module) (p : Place) (result : ℕ) (t : ValueTerm) → module_scanned s m p result xs ≡ Forms t → (ts : ValueTerms) → all_scanned xs ≡ Forms ts → AreReady k st (module_selectors s m xs each) → AreReady k st (module_names m xs its)
    module_ready computing.Import p result t g ts all h = import_ready p result t (scanned_at xs 0) refl g ts all h
    module_ready m p result t g ts all h = i.all ts all h

    effect_ready : (e : Effect) (t : ValueTerm) → effect_scanned e xs ≡ Forms t → AreReady k st (effect_selectors e each) → AreReady k st (effect_selectors e its)
    effect_ready effect.SetLocal t g h = i.at 1 t g h
    effect_ready effect.SetGlobal t g h = i.at 1 t g h
    effect_ready effect.Print t g h = tt
    effect_ready effect.Echo t g h = tt
    effect_ready effect.Export t g h = tt

    rule_ready : (f : Function) (p : Place) (result : ℕ) (t : ValueTerm) → rule_scanned s f p result xs ≡ Forms t → AreReady k st (rule_selectors s f p result xs each) → AreReady k st (rule_names s f p result xs its)
    rule_ready (function.Module m) p result t g h = let all = module_formed_all s m p result xs t g in module_ready m p result t g all.0 all.1 h
    rule_ready (function.Effect e) p result t g h = effect_ready e t g h
    rule_ready function.Switch p result t g h = selector_ready function.Switch p result t (λ v. refl) g h
    rule_ready function.Route p result t g h = selector_ready function.Route p result t (λ v. refl) g h
    rule_ready function.GetLocal p result t g h = selector_ready function.GetLocal p result t (λ v. refl) g h
    rule_ready function.GetGlobal p result t g h = selector_ready function.GetGlobal p result t (λ v. refl) g h

  -- ---- trees

  formed_beside : (x : Scanned ValueTerm) (t : ValueTerm) (own rest : List ValueTerm) → x ≡ Forms t → AreReady k st (selectors_beside x own rest) → AreReady k st (own ++ rest)
  formed_beside x t own rest e h = subst (λ y. AreReady k st (selectors_beside y own rest)) e h

  -- the name of an Import, and what is looked at behind it
  name_got : (v : Value) (t : ValueTerm) (x : Scanned ValueTerm) (own rest : List ValueTerm) → x ≡ Forms t → s.told t ≡ Some v → AreReady k st (own ++ got_selectors s x (λ u. rest)) → AreReady k st (t ∷ rest)
  name_got v t x own rest e q h =
      let formed = subst (λ y. AreReady k st (own ++ got_selectors s y (λ u. rest))) e h in
      ready_behind k st own (t ∷ rest) (subst (λ o. AreReady k st (own ++ t ∷ told_selectors o (λ u. rest))) q formed)

  mutual
    pub names_ready : (t : Tree) (u : ValueTerm) → scan s t ≡ Forms u → AreReady k st (selectors s t) → AreReady k st (names s t)
    names_ready (ConstantTree c) u e h = tt
    names_ready (ResultTree result (TreeCall f p args)) u e h =
        rule_ready (scan_each s args) (selectors_each s args) (names_each s args) (record { at = at_ready args; all = all_names_ready args; named = name_ready args }) f p result u e h

    at_ready : (ts : Trees) (m : ℕ) (t : ValueTerm) → scanned_at (scan_each s ts) m ≡ Forms t → AreReady k st (selectors_at (selectors_each s ts) m) → AreReady k st (selectors_at (names_each s ts) m)
    at_ready NoTree m t e h = tt
    at_ready (AndTree t ts) zero u e h = names_ready t u e h
    at_ready (AndTree t ts) (suc m) u e h = at_ready ts m u e h

    pub all_names_ready : (ts : Trees) (us : ValueTerms) → all_scanned (scan_each s ts) ≡ Forms us → AreReady k st (all_selectors (scan_each s ts) (selectors_each s ts)) → AreReady k st (all_names (names_each s ts))
    all_names_ready NoTree us e h = tt
    all_names_ready (AndTree t ts) us e h =
        let r = beside_forms (scan s t) (all_scanned (scan_each s ts)) us e in
        let own = selectors s t in
        let rest = all_selectors (scan_each s ts) (selectors_each s ts) in
        let both = formed_beside (scan s t) r.0.0 own rest r.0.1 h in
        ready_append k st (names s t) (all_names (names_each s ts)) (names_ready t r.0.0 r.0.1 (ready_front k st own rest both)) (all_names_ready ts r.1.0 r.1.1 (ready_behind k st own rest both))

    name_ready : (ts : Trees) (us : ValueTerms) → all_scanned (scan_each s ts) ≡ Forms us → (v : Value) (t : ValueTerm) → scanned_at (scan_each s ts) 0 ≡ Forms t → s.told t ≡ Some v → AreReady k st (module_selectors s computing.Import (scan_each s ts) (selectors_each s ts)) → AreReady k st (import_names (scan_each s ts) (names_each s ts))
    name_ready NoTree us e v u q o h = tt
    name_ready (AndTree t ts) us e v u q o h =
        let r = beside_forms (scan s t) (all_scanned (scan_each s ts)) us e in
        let rest = all_selectors (scan_each s ts) (selectors_each s ts) in
        let got = name_got v u (scan s t) (selectors s t) rest q o h in
        subst (λ y. AreReady k st (name_of y ++ all_names (names_each s ts))) (sym q) (got.0, all_names_ready ts r.1.0 r.1.1 got.1)
