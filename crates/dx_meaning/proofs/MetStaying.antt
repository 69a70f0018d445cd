-- The calls that a tree's data meets stay as more is told.
use Rattle.std.proofs.Common.{◌≡◌, ℕ, zero, suc, List, [], ◌∷◌, ◌++◌, Option, Some, None, refl, sym, ap, ap₂, ◌∙◌, subst}
use Rattle.dx_base.specs.declared.function.Function.{Function}
use Rattle.dx_base.specs.declared.function.Function.TheVariants as function
use Rattle.dx_base.specs.declared.function.Module.{Module}
use Rattle.dx_base.specs.declared.function.Module.TheVariants as computing
use Rattle.dx_base.specs.declared.function.Effect.{Effect}
use Rattle.dx_base.specs.declared.function.Effect.TheVariants as effect
use Rattle.dx_macros.specs.Tree.{Place, Tree, ConstantTree, ResultTree, CallTree, TreeCall, Trees, NoTree, AndTree}
use Rattle.dx_tags.specs.Closed.{ValueTerm, ConstantTerm, HeldTerm, ResultTerm, FileTerm, ValueTerms}
use Rattle.dx_meaning.specs.Outcome.{Value}
use Rattle.dx_meaning.specs.Picking.{Pick, PickThis, PickInput, PickOff, PickFault, pick, selector_at}
use Rattle.dx_meaning.specs.Scan.{Sight, Stop, Scanned, Forms, Ends, scanned_beside, all_scanned, scanned_at, call_scanned, written_for, picked_scanned, terms_in, valued, told_scanned, selected, selector_scanned, effect_scanned, module_scanned, rule_scanned, scan, scan_each}
use Rattle.dx_meaning.specs.More.{More, Keeps}
use Rattle.dx_meaning.specs.Met.{Called, met_at, all_met, arguments_met, own_met, picked_met, told_met, selected_met, selector_met, effect_met, met_rule, met, each_met}
use Rattle.dx_meaning.proofs.Keeping.{EachKeeps, at_keeps, scan_keeps, each_keeps, forms_kept, same_terms, rule_keeps}

-- where a term is formed, the same calls are met
abbrev pub MetKeep : {A : Type 0} → Scanned A → List Called → List Called → Type 0
MetKeep (Forms x) a b = b ≡ a
MetKeep (Ends e) a b = Unit {0}

abbrev pub EachMetKeep : List (Scanned ValueTerm) → List (List Called) → List (List Called) → Type 0
EachMetKeep [] [] [] = Unit {0}
EachMetKeep (s ∷ ss) (a ∷ each) (b ∷ each') = MetKeep s a b × EachMetKeep ss each each'
EachMetKeep _ _ _ = ⊥

met_at_keep : (ss : List (Scanned ValueTerm)) (each each' : List (List Called)) → EachMetKeep ss each each' → (n : ℕ) → MetKeep (scanned_at ss n) (met_at each n) (met_at each' n)
met_at_keep [] [] [] h n = refl
met_at_keep (s ∷ ss) (a ∷ each) (b ∷ each') h zero = h.0
met_at_keep (s ∷ ss) (a ∷ each) (b ∷ each') h (suc n) = met_at_keep ss each each' h.1 n
met_at_keep [] [] (b ∷ each') h n = absurd h
met_at_keep [] (a ∷ each) [] h n = absurd h
met_at_keep [] (a ∷ each) (b ∷ each') h n = absurd h
met_at_keep (s ∷ ss) [] [] h n = absurd h
met_at_keep (s ∷ ss) [] (b ∷ each') h n = absurd h
met_at_keep (s ∷ ss) (a ∷ each) [] h n = absurd h

-- all inputs form terms
pub beside_forms : (s : Scanned ValueTerm) (r : Scanned ValueTerms) (ts : ValueTerms) → scanned_beside s r ≡ Forms ts → ((t : ValueTerm) × (s ≡ Forms t)) × ((us : ValueTerms) × (r ≡ Forms us))
beside_forms (Ends e) r ts h = cc
beside_forms (Forms t) (Ends e) ts h = cc
beside_forms (Forms t) (Forms us) ts h = ((t, refl), (us, refl))

kept_calls : (s : Scanned ValueTerm) (t : ValueTerm) (a b : List Called) → s ≡ Forms t → MetKeep s a b → b ≡ a
kept_calls (Forms u) t a b e k = k
kept_calls (Ends x) t a b e k = cc

each_same : (ss : List (Scanned ValueTerm)) (each each' : List (List Called)) (ts : ValueTerms) → all_scanned ss ≡ Forms ts → EachMetKeep ss each each' → each' ≡ each
each_same [] [] [] ts e h = refl
each_same (s ∷ ss) (a ∷ each) (b ∷ each') ts e h =
    let r = beside_forms s (all_scanned ss) ts e in
    ap₂ (λ (x : List Called) (xs : List (List Called)). x ∷ xs) (kept_calls s r.0.0 a b r.0.1 h.0) (each_same ss each each' r.1.0 r.1.1 h.1)
each_same [] [] (b ∷ each') ts e h = absurd h
each_same [] (a ∷ each) [] ts e h = absurd h
each_same [] (a ∷ each) (b ∷ each') ts e h = absurd h
each_same (s ∷ ss) [] [] ts e h = absurd h
each_same (s ∷ ss) [] (b ∷ each') ts e h = absurd h
each_same (s ∷ ss) (a ∷ each) [] ts e h = absurd h

call_formed_all : (m : Module) (file : Option (List ℕ)) (result : ℕ) (r : Scanned ValueTerms) (t : ValueTerm) → call_scanned m file result r ≡ Forms t → (ts : ValueTerms) × (r ≡ Forms ts)
call_formed_all m file result (Forms ts) t e = (ts, refl)
call_formed_all m file result (Ends x) t e = cc

told_formed_all : (s : Sight) (m : Module) (p : Place) (result : ℕ) (ss : List (Scanned ValueTerm)) (u : ValueTerm) (o : Option Value) (t : ValueTerm) → told_scanned s (function.Module m) p result ss u o ≡ Forms t → (ts : ValueTerms) × (all_scanned ss ≡ Forms ts)
told_formed_all s m p result ss u None t e = cc
told_formed_all s m p result ss u (Some v) t e = call_formed_all m (written_for s v) result (all_scanned ss) t e

named_formed_all : (s : Sight) (m : Module) (p : Place) (result : ℕ) (ss : List (Scanned ValueTerm)) (x : Scanned ValueTerm) (t : ValueTerm) → selected s (function.Module m) p result ss x ≡ Forms t → (ts : ValueTerms) × (all_scanned ss ≡ Forms ts)
named_formed_all s m p result ss (Ends x) t e = cc
named_formed_all s m p result ss (Forms u) t e = told_formed_all s m p result ss u (s.told u) t e

-- a call that is formed has all its inputs
pub module_formed_all : (s : Sight) (m : Module) (p : Place) (result : ℕ) (ss : List (Scanned ValueTerm)) (t : ValueTerm) → module_scanned s m p result ss ≡ Forms t → (ts : ValueTerms) × (all_scanned ss ≡ Forms ts)
module_formed_all s computing.Import p result ss t e = named_formed_all s computing.Import p result ss (scanned_at ss 0) t e
module_formed_all s computing.Select p result ss t e = call_formed_all computing.Select None result (all_scanned ss) t e
module_formed_all s computing.Extract p result ss t e = call_formed_all computing.Extract None result (all_scanned ss) t e
module_formed_all s computing.Replace p result ss t e = call_formed_all computing.Replace None result (all_scanned ss) t e
module_formed_all s computing.Mark p result ss t e = call_formed_all computing.Mark None result (all_scanned ss) t e
module_formed_all s computing.Unmark p result ss t e = call_formed_all computing.Unmark None result (all_scanned ss) t e
module_formed_all s computing.Slab p result ss t e = call_formed_all computing.Slab None result (all_scanned ss) t e
module_formed_all s computing.Compute p result ss t e = call_formed_all computing.Compute None result (all_scanned ss) t e
module_formed_all s computing.Statistics p result ss t e = call_formed_all computing.Statistics None result (all_scanned ss) t e
module_formed_all s computing.Histogram p result ss t e = call_formed_all computing.Histogram None result (all_scanned ss) t e
module_formed_all s computing.Collect p result ss t e = call_formed_all computing.Collect None result (all_scanned ss) t e
module_formed_all s computing.CollectNamed p result ss t e = call_formed_all computing.CollectNamed None result (all_scanned ss) t e
module_formed_all s computing.CollectSeries p result ss t e = call_formed_all computing.CollectSeries None result (all_scanned ss) t e
module_formed_all s computing.Inquire p result ss t e = call_formed_all computing.Inquire None result (all_scanned ss) t e

module_met_keep : (s s' : Sight) (m : Module) (p : Place) (result : ℕ) (ss ss' : List (Scanned ValueTerm)) (each each' : List (List Called)) → EachMetKeep ss each each' → (x y : Scanned ValueTerm) → module_scanned s m p result ss ≡ x → Keeps x y →
    MetKeep x (all_met (arguments_met m each) ++ own_met p x) (all_met (arguments_met m each') ++ own_met p y)
module_met_keep s s' m p result ss ss' each each' h (Ends x) y e k = tt
module_met_keep s s' m p result ss ss' each each' h (Forms t) y e k =
    let all = module_formed_all s m p result ss t e in
    ap₂ (λ (a : List (List Called)) (z : Scanned ValueTerm). all_met (arguments_met m a) ++ own_met p z) (each_same ss each each' all.0 all.1 h) k

picked_met_keep : (p : Place) (ss : List (Scanned ValueTerm)) (each each' : List (List Called)) → EachMetKeep ss each each' → (k : Pick ValueTerm) → MetKeep (picked_scanned p ss k) (picked_met each k) (picked_met each' k)
picked_met_keep p ss each each' h (PickThis t) = refl
picked_met_keep p ss each each' h (PickInput n) = met_at_keep ss each each' h n
picked_met_keep p ss each each' h PickOff = tt
picked_met_keep p ss each each' h PickFault = tt

picking_met_keep : (s s' : Sight) → More s s' → (f : Function) (p : Place) (result : ℕ) (ss : List (Scanned ValueTerm)) (each each' : List (List Called)) → EachMetKeep ss each each' → (v : Value) →
    MetKeep (picked_scanned p ss (pick (terms_in s) f p result v)) (picked_met each (pick (terms_in s) f p result v)) (picked_met each' (pick (terms_in s') f p result v))
picking_met_keep s s' m f p result ss each each' h v = rw (same_terms s s' m) (picked_met_keep p ss each each' h (pick (terms_in s) f p result v))

told_met_none : (s s' : Sight) (f : Function) (p : Place) (result : ℕ) (ss : List (Scanned ValueTerm)) (each each' : List (List Called)) (t : ValueTerm) (o' : Option Value) → MetKeep (told_scanned s f p result ss t None) (told_met s f p result each None) (told_met s' f p result each' o')
told_met_none s s' f p result ss each each' t o' = tt

told_Switch : (s s' : Sight) → More s s' → (p : Place) (result : ℕ) (ss : List (Scanned ValueTerm)) (each each' : List (List Called)) → EachMetKeep ss each each' → (t : ValueTerm) (o o' : Option Value) → ((v : Value) → o ≡ Some v → o' ≡ Some v) →
    MetKeep (told_scanned s function.Switch p result ss t o) (told_met s function.Switch p result each o) (told_met s' function.Switch p result each' o')
told_Switch s s' m p result ss each each' h t None o' e = tt
told_Switch s s' m p result ss each each' h t (Some v) o' e = rw (e v refl) (picking_met_keep s s' m function.Switch p result ss each each' h v)

selected_Switch : (s s' : Sight) → More s s' → (p : Place) (result : ℕ) (ss : List (Scanned ValueTerm)) (each each' : List (List Called)) → EachMetKeep ss each each' → (a a' : Scanned ValueTerm) → Keeps a a' →
    MetKeep (selected s function.Switch p result ss a) (selected_met s function.Switch p result each a) (selected_met s' function.Switch p result each' a')
selected_Switch s s' m p result ss each each' h (Forms t) a' k = rw k (told_Switch s s' m p result ss each each' h t (s.told t) (s'.told t) (m.told t))
selected_Switch s s' m p result ss each each' h (Ends e) a' k = tt

told_Route : (s s' : Sight) → More s s' → (p : Place) (result : ℕ) (ss : List (Scanned ValueTerm)) (each each' : List (List Called)) → EachMetKeep ss each each' → (t : ValueTerm) (o o' : Option Value) → ((v : Value) → o ≡ Some v → o' ≡ Some v) →
    MetKeep (told_scanned s function.Route p result ss t o) (told_met s function.Route p result each o) (told_met s' function.Route p result each' o')
told_Route s s' m p result ss each each' h t None o' e = tt
told_Route s s' m p result ss each each' h t (Some v) o' e = rw (e v refl) (picking_met_keep s s' m function.Route p result ss each each' h v)

selected_Route : (s s' : Sight) → More s s' → (p : Place) (result : ℕ) (ss : List (Scanned ValueTerm)) (each each' : List (List Called)) → EachMetKeep ss each each' → (a a' : Scanned ValueTerm) → Keeps a a' →
    MetKeep (selected s function.Route p result ss a) (selected_met s function.Route p result each a) (selected_met s' function.Route p result each' a')
selected_Route s s' m p result ss each each' h (Forms t) a' k = rw k (told_Route s s' m p result ss each each' h t (s.told t) (s'.told t) (m.told t))
selected_Route s s' m p result ss each each' h (Ends e) a' k = tt

told_GetLocal : (s s' : Sight) → More s s' → (p : Place) (result : ℕ) (ss : List (Scanned ValueTerm)) (each each' : List (List Called)) → EachMetKeep ss each each' → (t : ValueTerm) (o o' : Option Value) → ((v : Value) → o ≡ Some v → o' ≡ Some v) →
    MetKeep (told_scanned s function.GetLocal p result ss t o) (told_met s function.GetLocal p result each o) (told_met s' function.GetLocal p result each' o')
told_GetLocal s s' m p result ss each each' h t None o' e = tt
told_GetLocal s s' m p result ss each each' h t (Some v) o' e = rw (e v refl) (picking_met_keep s s' m function.GetLocal p result ss each each' h v)

selected_GetLocal : (s s' : Sight) → More s s' → (p : Place) (result : ℕ) (ss : List (Scanned ValueTerm)) (each each' : List (List Called)) → EachMetKeep ss each each' → (a a' : Scanned ValueTerm) → Keeps a a' →
    MetKeep (selected s function.GetLocal p result ss a) (selected_met s function.GetLocal p result each a) (selected_met s' function.GetLocal p result each' a')
selected_GetLocal s s' m p result ss each each' h (Forms t) a' k = rw k (told_GetLocal s s' m p result ss each each' h t (s.told t) (s'.told t) (m.told t))
selected_GetLocal s s' m p result ss each each' h (Ends e) a' k = tt

told_GetGlobal : (s s' : Sight) → More s s' → (p : Place) (result : ℕ) (ss : List (Scanned ValueTerm)) (each each' : List (List Called)) → EachMetKeep ss each each' → (t : ValueTerm) (o o' : Option Value) → ((v : Value) → o ≡ Some v → o' ≡ Some v) →
    MetKeep (told_scanned s function.GetGlobal p result ss t o) (told_met s function.GetGlobal p result each o) (told_met s' function.GetGlobal p result each' o')
told_GetGlobal s s' m p result ss each each' h t None o' e = tt
told_GetGlobal s s' m p result ss each each' h t (Some v) o' e = rw (e v refl) (picking_met_keep s s' m function.GetGlobal p result ss each each' h v)

selected_GetGlobal : (s s' : Sight) → More s s' → (p : Place) (result : ℕ) (ss : List (Scanned ValueTerm)) (each each' : List (List Called)) → EachMetKeep ss each each' → (a a' : Scanned ValueTerm) → Keeps a a' →
    MetKeep (selected s function.GetGlobal p result ss a) (selected_met s function.GetGlobal p result each a) (selected_met s' function.GetGlobal p result each' a')
selected_GetGlobal s s' m p result ss each each' h (Forms t) a' k = rw k (told_GetGlobal s s' m p result ss each each' h t (s.told t) (s'.told t) (m.told t))
selected_GetGlobal s s' m p result ss each each' h (Ends e) a' k = tt

effect_met_keep : (e : Effect) (ss : List (Scanned ValueTerm)) (each each' : List (List Called)) → EachMetKeep ss each each' → MetKeep (effect_scanned e ss) (effect_met e each) (effect_met e each')
effect_met_keep effect.SetLocal ss each each' h = met_at_keep ss each each' h 1
effect_met_keep effect.SetGlobal ss each each' h = met_at_keep ss each each' h 1
effect_met_keep effect.Print ss each each' h = refl
effect_met_keep effect.Echo ss each each' h = refl
effect_met_keep effect.Export ss each each' h = refl

rule_met_keep : (s s' : Sight) → More s s' → (f : Function) (p : Place) (result : ℕ) (ss ss' : List (Scanned ValueTerm)) (each each' : List (List Called)) → EachKeeps ss ss' → EachMetKeep ss each each' →
    MetKeep (rule_scanned s f p result ss) (met_rule s f p result ss each) (met_rule s' f p result ss' each')
rule_met_keep s s' m (function.Module mo) p result ss ss' each each' k h =
    module_met_keep s s' mo p result ss ss' each each' h (module_scanned s mo p result ss) (module_scanned s' mo p result ss') refl (rule_keeps s s' m (function.Module mo) p result ss ss' k)
rule_met_keep s s' m (function.Effect e) p result ss ss' each each' k h = effect_met_keep e ss each each' h
rule_met_keep s s' m function.Switch p result ss ss' each each' k h = selected_Switch s s' m p result ss each each' h (scanned_at ss 0) (scanned_at ss' 0) (at_keeps ss ss' k 0)
rule_met_keep s s' m function.Route p result ss ss' each each' k h = selected_Route s s' m p result ss each each' h (scanned_at ss 0) (scanned_at ss' 0) (at_keeps ss ss' k 0)
rule_met_keep s s' m function.GetLocal p result ss ss' each each' k h = selected_GetLocal s s' m p result ss each each' h (scanned_at ss 1) (scanned_at ss' 1) (at_keeps ss ss' k 1)
rule_met_keep s s' m function.GetGlobal p result ss ss' each each' k h = selected_GetGlobal s s' m p result ss each each' h (scanned_at ss 1) (scanned_at ss' 1) (at_keeps ss ss' k 1)

mutual
  pub met_keeps : (s s' : Sight) → More s s' → (t : Tree) → MetKeep (scan s t) (met s t) (met s' t)
  met_keeps s s' m (ConstantTree c) = refl
  met_keeps s s' m (ResultTree result (TreeCall f p args)) =
      rule_met_keep s s' m f p result (scan_each s args) (scan_each s' args) (each_met s args) (each_met s' args) (each_keeps s s' m args) (each_met_keeps s s' m args)

  pub each_met_keeps : (s s' : Sight) → More s s' → (ts : Trees) → EachMetKeep (scan_each s ts) (each_met s ts) (each_met s' ts)
  each_met_keeps s s' m NoTree = tt
  each_met_keeps s s' m (AndTree t ts) = (met_keeps s s' m t, each_met_keeps s s' m ts)
