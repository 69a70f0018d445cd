-- Looking that ends at a selector that isn't told ends so as more is told, unless that is told.
use Rattle.std.proofs.Common.{◌≡◌, ℕ, zero, suc, List, ◌∷◌, Option, Some, None, refl, sym, ap, ap₂, ◌∙◌, subst}
use Rattle.dx_base.specs.declared.function.Function.{Function}
use Rattle.dx_base.specs.declared.function.Function.TheVariants as function
use Rattle.dx_base.specs.declared.function.Module.{Module}
use Rattle.dx_base.specs.declared.function.Module.TheVariants as computing
use Rattle.dx_base.specs.declared.function.Effect.{Effect}
use Rattle.dx_base.specs.declared.function.Effect.TheVariants as effect
use Rattle.dx_macros.specs.Tree.{Place, Tree, ConstantTree, ResultTree, TreeCall, Trees, NoTree, AndTree}
use Rattle.dx_tags.specs.Closed.{ValueTerm, ValueTerms}
use Rattle.dx_meaning.specs.Outcome.{Value}
use Rattle.dx_meaning.specs.Picking.{Pick, PickThis, PickInput, PickOff, PickFault, pick, selector_at}
use Rattle.dx_meaning.specs.More.{More, Keeps}
use Rattle.dx_meaning.specs.Scan.{Sight, IsOff, Stops, Needs, Scanned, Forms, Ends, scanned_beside, all_scanned, scanned_at, call_scanned, written_for, picked_scanned, terms_in, valued, told_scanned, selected, selector_scanned, effect_scanned, module_scanned, rule_scanned, scan, scan_each}
use Rattle.dx_meaning.specs.Met.{Called, met_at, picked_met, effect_met, met, each_met}
use Rattle.dx_meaning.proofs.Keeping.{scan_keeps, same_terms, same_file}
use Rattle.dx_meaning.proofs.MetStaying.{MetKeep, beside_forms, met_keeps}
use Rattle.dx_meaning.specs.Halted.{halted_beside, all_halted, told_halted, selected_halted, picking_halted, module_halted, rule_halted, halted_met, each_halted, halted_all}

-- ---- where each argument forms a term, the same calls are met

kept_calls : (x : Scanned ValueTerm) (t : ValueTerm) (cs ds : List Called) → x ≡ Forms t → MetKeep x cs ds → ds ≡ cs
kept_calls (Forms u) t cs ds e k = k
kept_calls (Ends v) t cs ds e k = cc

pub met_same : (s s' : Sight) → More s s' → (args : Trees) (ts : ValueTerms) → all_scanned (scan_each s args) ≡ Forms ts → each_met s' args ≡ each_met s args
met_same s s' m NoTree ts e = refl
met_same s s' m (AndTree t args) ts e =
    let r = beside_forms (scan s t) (all_scanned (scan_each s args)) ts e in
    ap₂ (λ (cs : List Called) (each : List (List Called)). cs ∷ each) (kept_calls (scan s t) r.0.0 (met s t) (met s' t) r.0.1 (met_keeps s s' m t)) (met_same s s' m args r.1.0 r.1.1)

-- ---- where it ends at a selector

abbrev pub HaltKeep : {A : Type 0} → Sight → Scanned A → Scanned A → List Called → List Called → Type 0
HaltKeep s' (Forms t) y cs ds = Unit {0}
HaltKeep s' (Ends IsOff) y cs ds = Unit {0}
HaltKeep s' (Ends (Stops place code)) y cs ds = Unit {0}
HaltKeep s' (Ends (Needs place u)) y cs ds = s'.told u ≡ None → (y ≡ Ends (Needs place u)) × (ds ≡ cs)

-- an input of a call
pub record Stays (s' : Sight) (x y : Scanned ValueTerm) (mets mets' halts halts' : List Called) : Type 0 where
  pub keeps : Keeps x y
  pub met : MetKeep x mets mets'
  pub halted : HaltKeep s' x y halts halts'

formed_stays : (s' : Sight) (t : ValueTerm) (own' rest rest' : List Called) (r r' : Scanned ValueTerms) → HaltKeep s' r r' rest rest' → HaltKeep s' (scanned_beside (Forms t) r) (scanned_beside (Forms t) r') rest rest'
formed_stays s' t own' rest rest' (Forms ts) r' h = tt
formed_stays s' t own' rest rest' (Ends IsOff) r' h = tt
formed_stays s' t own' rest rest' (Ends (Stops place code)) r' h = tt
formed_stays s' t own' rest rest' (Ends (Needs place u)) r' h = λ e. let k = h e in (ap (scanned_beside (Forms t)) k.0, k.1)

beside_stays : (s' : Sight) (x y : Scanned ValueTerm) (r r' : Scanned ValueTerms) (own own' rest rest' : List Called) → Keeps x y → HaltKeep s' x y own own' → HaltKeep s' r r' rest rest' → HaltKeep s' (scanned_beside x r) (scanned_beside y r') (halted_beside x own rest) (halted_beside y own' rest')
beside_stays s' (Forms t) y r r' own own' rest rest' k h i = subst (λ z. HaltKeep s' (scanned_beside (Forms t) r) (scanned_beside z r') rest (halted_beside z own' rest')) (sym k) (formed_stays s' t own' rest rest' r r' i)
beside_stays s' (Ends IsOff) y r r' own own' rest rest' k h i = tt
beside_stays s' (Ends (Stops place code)) y r r' own own' rest rest' k h i = tt
beside_stays s' (Ends (Needs place u)) y r r' own own' rest rest' k h i = λ e. let q = h e in (ap (λ z. scanned_beside z r') q.0, ap (λ z. halted_beside z own' rest') q.0 ∙ q.1)

call_stays : (s' : Sight) (m : Module) (file : Option (List ℕ)) (result : ℕ) (r r' : Scanned ValueTerms) (cs ds : List Called) → HaltKeep s' r r' cs ds → HaltKeep s' (call_scanned m file result r) (call_scanned m file result r') cs ds
call_stays s' m file result (Forms ts) r' cs ds h = tt
call_stays s' m file result (Ends IsOff) r' cs ds h = tt
call_stays s' m file result (Ends (Stops place code)) r' cs ds h = tt
call_stays s' m file result (Ends (Needs place u)) r' cs ds h = λ e. let q = h e in (ap (call_scanned m file result) q.0, q.1)

pub record Inputs (s' : Sight) (xs ys : List (Scanned ValueTerm)) (mets mets' halts halts' : List (List Called)) : Type 0 where
  pub at : (k : ℕ) → Stays s' (scanned_at xs k) (scanned_at ys k) (met_at mets k) (met_at mets' k) (met_at halts k) (met_at halts' k)
  pub all : HaltKeep s' (all_scanned xs) (all_scanned ys) (all_halted xs halts) (all_halted ys halts')

module _ (s s' : Sight) (more : More s s') (xs ys : List (Scanned ValueTerm)) (mets mets' halts halts' : List (List Called)) (i : Inputs s' xs ys mets mets' halts halts') where
  told_stays : (f : Function) (p : Place) (result : ℕ) (t : ValueTerm) (o o' : Option Value) (own own' : List Called) (go go' : Value → List Called) → o ≡ s.told t → o' ≡ s'.told t → own' ≡ own → ((v : Value) → HaltKeep s' (valued s f p result xs v) (valued s' f p result ys v) (go v) (go' v)) →
      HaltKeep s' (told_scanned s f p result xs t o) (told_scanned s' f p result ys t o') (told_halted o own go) (told_halted o' own' go')
  told_stays f p result t None o' own own' go go' e e' c k = λ q. let none : o' ≡ None = e' ∙ q in rw none (refl, c)
  told_stays f p result t (Some v) o' own own' go go' e e' c k = let some : o' ≡ Some v = e' ∙ more.told t v (sym e) in rw some (k v)

  selected_stays : (f : Function) (p : Place) (result : ℕ) (x y : Scanned ValueTerm) (within within' own own' : List Called) (go go' : Value → List Called) → Stays s' x y own own' within within' → ((v : Value) → HaltKeep s' (valued s f p result xs v) (valued s' f p result ys v) (go v) (go' v)) →
      HaltKeep s' (selected s f p result xs x) (selected s' f p result ys y) (selected_halted s x within own go) (selected_halted s' y within' own' go')
  selected_stays f p result (Forms t) y within within' own own' go go' h k =
      subst (λ z. HaltKeep s' (selected s f p result xs (Forms t)) (selected s' f p result ys z) (selected_halted s (Forms t) within own go) (selected_halted s' z within' own' go')) (sym h.keeps)
      (told_stays f p result t (s.told t) (s'.told t) own own' go go' refl refl h.met k)
  selected_stays f p result (Ends IsOff) y within within' own own' go go' h k = tt
  selected_stays f p result (Ends (Stops place code)) y within within' own own' go go' h k = tt
  selected_stays f p result (Ends (Needs place u)) y within within' own own' go go' h k = λ e. let q = h.halted e in (ap (selected s' f p result ys) q.0, ap (λ z. selected_halted s' z within' own' go') q.0 ∙ q.1)

  picked_stays : (p : Place) (c : Pick ValueTerm) → HaltKeep s' (picked_scanned p xs c) (picked_scanned p ys c) (picked_met halts c) (picked_met halts' c)
  picked_stays p (PickThis t) = tt
  picked_stays p (PickInput n) = (i.at n).halted
  picked_stays p PickOff = tt
  picked_stays p PickFault = tt

  picking_stays : (f : Function) (p : Place) (result : ℕ) (v : Value) → HaltKeep s' (picked_scanned p xs (pick (terms_in s) f p result v)) (picked_scanned p ys (pick (terms_in s') f p result v)) (picked_met halts (pick (terms_in s) f p result v)) (picked_met halts' (pick (terms_in s') f p result v))
  picking_stays f p result v = rw (same_terms s s' more) (picked_stays p (pick (terms_in s) f p result v))

  selector_stays : (f : Function) (p : Place) (result : ℕ) → ((v : Value) → HaltKeep s' (valued s f p result xs v) (valued s' f p result ys v) (picked_met halts (pick (terms_in s) f p result v)) (picked_met halts' (pick (terms_in s') f p result v))) →
      HaltKeep s' (selector_scanned s f p result xs) (selector_scanned s' f p result ys) (picking_halted s f p result xs mets halts) (picking_halted s' f p result ys mets' halts')
  selector_stays f p result k =
      selected_stays f p result (scanned_at xs (selector_at f)) (scanned_at ys (selector_at f)) (met_at halts (selector_at f)) (met_at halts' (selector_at f)) (met_at mets (selector_at f)) (met_at mets' (selector_at f))
      (λ v. picked_met halts (pick (terms_in s) f p result v)) (λ v. picked_met halts' (pick (terms_in s') f p result v)) (i.at (selector_at f)) k

  named_stays : (p : Place) (result : ℕ) (v : Value) → HaltKeep s' (valued s (function.Module computing.Import) p result xs v) (valued s' (function.Module computing.Import) p result ys v) (all_halted xs halts) (all_halted ys halts')
  named_stays p result v = rw (same_file s s' more v) (call_stays s' computing.Import (written_for s v) result (all_scanned xs) (all_scanned ys) (all_halted xs halts) (all_halted ys halts') i.all)

  module_stays : (m : Module) (p : Place) (result : ℕ) → HaltKeep s' (module_scanned s m p result xs) (module_scanned s' m p result ys) (module_halted s m xs mets halts) (module_halted s' m ys mets' halts')
  module_stays computing.Import p result =
      selected_stays (function.Module computing.Import) p result (scanned_at xs 0) (scanned_at ys 0) (met_at halts 0) (met_at halts' 0) (met_at mets 0) (met_at mets' 0) (λ v. all_halted xs halts) (λ v. all_halted ys halts') (i.at 0) (named_stays p result)
  module_stays m p result = call_stays s' m None result (all_scanned xs) (all_scanned ys) (all_halted xs halts) (all_halted ys halts') i.all

  effect_stays : (e : Effect) → HaltKeep s' (effect_scanned e xs) (effect_scanned e ys) (effect_met e halts) (effect_met e halts')
  effect_stays effect.SetLocal = (i.at 1).halted
  effect_stays effect.SetGlobal = (i.at 1).halted
  effect_stays effect.Print = tt
  effect_stays effect.Echo = tt
  effect_stays effect.Export = tt

  rule_stays : (f : Function) (p : Place) (result : ℕ) → HaltKeep s' (rule_scanned s f p result xs) (rule_scanned s' f p result ys) (rule_halted s f p result xs mets halts) (rule_halted s' f p result ys mets' halts')
  rule_stays (function.Module m) p result = module_stays m p result
  rule_stays (function.Effect e) p result = effect_stays e
  rule_stays function.Switch p result = selector_stays function.Switch p result (picking_stays function.Switch p result)
  rule_stays function.Route p result = selector_stays function.Route p result (picking_stays function.Route p result)
  rule_stays function.GetLocal p result = selector_stays function.GetLocal p result (picking_stays function.GetLocal p result)
  rule_stays function.GetGlobal p result = selector_stays function.GetGlobal p result (picking_stays function.GetGlobal p result)

module _ (s s' : Sight) (more : More s s') where
  mutual
    pub halt_stays : (t : Tree) → HaltKeep s' (scan s t) (scan s' t) (halted_met s t) (halted_met s' t)
    halt_stays (ConstantTree c) = tt
    halt_stays (ResultTree result (TreeCall f p args)) =
        rule_stays s s' more (scan_each s args) (scan_each s' args) (each_met s args) (each_met s' args) (each_halted s args) (each_halted s' args) (record { at = at_stays args; all = halts_stay args }) f p result

    at_stays : (ts : Trees) → (k : ℕ) → Stays s' (scanned_at (scan_each s ts) k) (scanned_at (scan_each s' ts) k) (met_at (each_met s ts) k) (met_at (each_met s' ts) k) (met_at (each_halted s ts) k) (met_at (each_halted s' ts) k)
    at_stays NoTree k = record { keeps = refl; met = refl; halted = tt }
    at_stays (AndTree t ts) zero = record { keeps = scan_keeps s s' more t; met = met_keeps s s' more t; halted = halt_stays t }
    at_stays (AndTree t ts) (suc k) = at_stays ts k

    pub halts_stay : (ts : Trees) → HaltKeep s' (all_scanned (scan_each s ts)) (all_scanned (scan_each s' ts)) (halted_all s ts) (halted_all s' ts)
    halts_stay NoTree = tt
    halts_stay (AndTree t ts) = beside_stays s' (scan s t) (scan s' t) (all_scanned (scan_each s ts)) (all_scanned (scan_each s' ts)) (halted_met s t) (halted_met s' t) (halted_all s ts) (halted_all s' ts) (scan_keeps s s' more t) (halt_stays t) (halts_stay ts)
