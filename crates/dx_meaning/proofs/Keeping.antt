-- What rests on no value that isn't told stays as more is told.
use Rattle.std.proofs.Common.{◌≡◌, ℕ, zero, suc, List, [], ◌∷◌, Option, Some, None, refl, sym, ap, ◌∙◌, subst}
use Rattle.dx_base.specs.declared.function.Function.{Function}
use Rattle.dx_base.specs.declared.function.Function.TheVariants as function
use Rattle.dx_base.specs.declared.function.Module.{Module}
use Rattle.dx_base.specs.declared.function.Module.TheVariants as computing
use Rattle.dx_base.specs.declared.function.Effect.{Effect}
use Rattle.dx_base.specs.declared.function.Effect.TheVariants as effect
use Rattle.dx_objects.specs.Kinds.{text_of}
use Rattle.dx_macros.specs.Tree.{Place, Tree, ConstantTree, ResultTree, CallTree, TreeCall, Trees, NoTree, AndTree}
use Rattle.dx_tags.specs.Closed.{ValueTerm, ValueTerms, NoTerm, AndTerm}
use Rattle.dx_meaning.specs.Outcome.{Value}
use Rattle.dx_meaning.specs.Picking.{Pick, PickThis, PickInput, PickOff, PickFault, pick, selector_at}
use Rattle.dx_meaning.specs.Scan.{Sight, Stop, IsOff, Stops, Needs, Scanned, Forms, Ends, scanned_beside, all_scanned, null_term, scanned_at, call_scanned, written_for, written_under, picked_scanned, terms_in, valued, told_scanned, selected, selector_scanned, effect_scanned, module_scanned, rule_scanned, scan, scan_each}
use Rattle.dx_meaning.specs.More.{More, Keeps}

pub keeps_itself : {A : Type 0} (a : Scanned A) → Keeps a a
keeps_itself (Forms x) = refl
keeps_itself (Ends IsOff) = refl
keeps_itself (Ends (Stops site code)) = refl
keeps_itself (Ends (Needs site t)) = tt

pub forms_kept : {A : Type 0} (a b : Scanned A) (x : A) → Keeps a b → a ≡ Forms x → b ≡ Forms x
forms_kept (Forms y) b x k e = k ∙ e
forms_kept (Ends y) b x k e = cc

abbrev pub EachKeeps : List (Scanned ValueTerm) → List (Scanned ValueTerm) → Type 0
EachKeeps [] [] = Unit {0}
EachKeeps (s ∷ ss) (s' ∷ ss') = Keeps s s' × EachKeeps ss ss'
EachKeeps _ _ = ⊥

beside_keeps : (s s' : Scanned ValueTerm) (r r' : Scanned ValueTerms) → Keeps s s' → Keeps r r' → Keeps (scanned_beside s r) (scanned_beside s' r')
beside_keeps (Ends IsOff) s' r r' p q = rw p refl
beside_keeps (Ends (Stops site code)) s' r r' p q = rw p refl
beside_keeps (Ends (Needs site t)) s' r r' p q = tt
beside_keeps (Forms t) s' (Ends IsOff) r' p q = rw (p, q) refl
beside_keeps (Forms t) s' (Ends (Stops site code)) r' p q = rw (p, q) refl
beside_keeps (Forms t) s' (Ends (Needs site u)) r' p q = tt
beside_keeps (Forms t) s' (Forms ts) r' p q = rw (p, q) refl

pub all_keeps : (ss ss' : List (Scanned ValueTerm)) → EachKeeps ss ss' → Keeps (all_scanned ss) (all_scanned ss')
all_keeps [] [] h = refl
all_keeps (s ∷ ss) (s' ∷ ss') h = beside_keeps s s' (all_scanned ss) (all_scanned ss') h.0 (all_keeps ss ss' h.1)
all_keeps [] (s' ∷ ss') h = absurd h
all_keeps (s ∷ ss) [] h = absurd h

pub at_keeps : (ss ss' : List (Scanned ValueTerm)) → EachKeeps ss ss' → (n : ℕ) → Keeps (scanned_at ss n) (scanned_at ss' n)
at_keeps [] [] h n = refl
at_keeps (s ∷ ss) (s' ∷ ss') h zero = h.0
at_keeps (s ∷ ss) (s' ∷ ss') h (suc n) = at_keeps ss ss' h.1 n
at_keeps [] (s' ∷ ss') h n = absurd h
at_keeps (s ∷ ss) [] h n = absurd h

call_keeps : (m : Module) (file : Option (List ℕ)) (result : ℕ) (s s' : Scanned ValueTerms) → Keeps s s' → Keeps (call_scanned m file result s) (call_scanned m file result s')
call_keeps m file result (Forms ts) s' p = rw p refl
call_keeps m file result (Ends IsOff) s' p = rw p refl
call_keeps m file result (Ends (Stops site code)) s' p = rw p refl
call_keeps m file result (Ends (Needs site t)) s' p = tt

picked_keeps : (p : Place) (ss ss' : List (Scanned ValueTerm)) → EachKeeps ss ss' → (k : Pick ValueTerm) → Keeps (picked_scanned p ss k) (picked_scanned p ss' k)
picked_keeps p ss ss' h (PickThis t) = refl
picked_keeps p ss ss' h (PickInput n) = at_keeps ss ss' h n
picked_keeps p ss ss' h PickOff = refl
picked_keeps p ss ss' h PickFault = refl

-- the same terms are at hand
pub same_terms : (s s' : Sight) → More s s' → terms_in s' ≡ terms_in s
same_terms s s' m = λ i. record { null = null_term; text = (terms_in s).text; held = m.linked i }

-- the same file was written
pub same_file : (s s' : Sight) → More s s' → (v : Value) → written_for s' v ≡ written_for s v
same_file s s' m None = refl
same_file s s' m (Some t) = ap (λ (w : List ℕ → Option (List ℕ)). written_by w (text_of t)) m.written
  where
    written_by : (List ℕ → Option (List ℕ)) → Option (List ℕ) → Option (List ℕ)
    written_by w o = written_under (record { linked = s.linked; written = w; told = s.told }) o

valued_keeps : (s s' : Sight) → More s s' → (f : Function) (p : Place) (result : ℕ) (ss ss' : List (Scanned ValueTerm)) → EachKeeps ss ss' → (v : Value) → Keeps (valued s f p result ss v) (valued s' f p result ss' v)
valued_keeps s s' m (function.Module mo) p result ss ss' h v = rw (same_file s s' m v) (call_keeps mo (written_for s v) result (all_scanned ss) (all_scanned ss') (all_keeps ss ss' h))
valued_keeps s s' m (function.Effect e) p result ss ss' h v = picked_keeps p ss ss' h (pick (terms_in s) (function.Effect e) p result v)
valued_keeps s s' m function.Switch p result ss ss' h v = picked_keeps p ss ss' h (pick (terms_in s) function.Switch p result v)
valued_keeps s s' m function.Route p result ss ss' h v = picked_keeps p ss ss' h (pick (terms_in s) function.Route p result v)
valued_keeps s s' m function.GetLocal p result ss ss' h v = rw (same_terms s s' m) (picked_keeps p ss ss' h (pick (terms_in s) function.GetLocal p result v))
valued_keeps s s' m function.GetGlobal p result ss ss' h v = rw (same_terms s s' m) (picked_keeps p ss ss' h (pick (terms_in s) function.GetGlobal p result v))

told_keeps : (s s' : Sight) → More s s' → (f : Function) (p : Place) (result : ℕ) (ss ss' : List (Scanned ValueTerm)) → EachKeeps ss ss' → (t : ValueTerm) (o o' : Option Value) → ((v : Value) → o ≡ Some v → o' ≡ Some v) →
    Keeps (told_scanned s f p result ss t o) (told_scanned s' f p result ss' t o')
told_keeps s s' m f p result ss ss' h t None o' e = tt
told_keeps s s' m f p result ss ss' h t (Some v) o' e = rw (e v refl) (valued_keeps s s' m f p result ss ss' h v)

selected_keeps : (s s' : Sight) → More s s' → (f : Function) (p : Place) (result : ℕ) (ss ss' : List (Scanned ValueTerm)) → EachKeeps ss ss' → (a a' : Scanned ValueTerm) → Keeps a a' →
    Keeps (selected s f p result ss a) (selected s' f p result ss' a')
selected_keeps s s' m f p result ss ss' h (Forms t) a' k = rw k (told_keeps s s' m f p result ss ss' h t (s.told t) (s'.told t) (m.told t))
selected_keeps s s' m f p result ss ss' h (Ends IsOff) a' k = rw k refl
selected_keeps s s' m f p result ss ss' h (Ends (Stops site code)) a' k = rw k refl
selected_keeps s s' m f p result ss ss' h (Ends (Needs site t)) a' k = tt

selector_keeps : (s s' : Sight) → More s s' → (f : Function) (p : Place) (result : ℕ) (ss ss' : List (Scanned ValueTerm)) → EachKeeps ss ss' → Keeps (selector_scanned s f p result ss) (selector_scanned s' f p result ss')
selector_keeps s s' m f p result ss ss' h =
    selected_keeps s s' m f p result ss ss' h (scanned_at ss (selector_at f)) (scanned_at ss' (selector_at f)) (at_keeps ss ss' h (selector_at f))

effect_keeps : (e : Effect) (ss ss' : List (Scanned ValueTerm)) → EachKeeps ss ss' → Keeps (effect_scanned e ss) (effect_scanned e ss')
effect_keeps effect.SetLocal ss ss' h = at_keeps ss ss' h 1
effect_keeps effect.SetGlobal ss ss' h = at_keeps ss ss' h 1
effect_keeps effect.Print ss ss' h = refl
effect_keeps effect.Echo ss ss' h = refl
effect_keeps effect.Export ss ss' h = refl

module_keeps : (s s' : Sight) → More s s' → (mo : Module) (p : Place) (result : ℕ) (ss ss' : List (Scanned ValueTerm)) → EachKeeps ss ss' → Keeps (module_scanned s mo p result ss) (module_scanned s' mo p result ss')
module_keeps s s' m computing.Import p result ss ss' h = selector_keeps s s' m (function.Module computing.Import) p result ss ss' h
module_keeps s s' m computing.Select p result ss ss' h = call_keeps computing.Select None result (all_scanned ss) (all_scanned ss') (all_keeps ss ss' h)
module_keeps s s' m computing.Extract p result ss ss' h = call_keeps computing.Extract None result (all_scanned ss) (all_scanned ss') (all_keeps ss ss' h)
module_keeps s s' m computing.Replace p result ss ss' h = call_keeps computing.Replace None result (all_scanned ss) (all_scanned ss') (all_keeps ss ss' h)
module_keeps s s' m computing.Mark p result ss ss' h = call_keeps computing.Mark None result (all_scanned ss) (all_scanned ss') (all_keeps ss ss' h)
module_keeps s s' m computing.Unmark p result ss ss' h = call_keeps computing.Unmark None result (all_scanned ss) (all_scanned ss') (all_keeps ss ss' h)
module_keeps s s' m computing.Slab p result ss ss' h = call_keeps computing.Slab None result (all_scanned ss) (all_scanned ss') (all_keeps ss ss' h)
module_keeps s s' m computing.Compute p result ss ss' h = call_keeps computing.Compute None result (all_scanned ss) (all_scanned ss') (all_keeps ss ss' h)
module_keeps s s' m computing.Statistics p result ss ss' h = call_keeps computing.Statistics None result (all_scanned ss) (all_scanned ss') (all_keeps ss ss' h)
module_keeps s s' m computing.Histogram p result ss ss' h = call_keeps computing.Histogram None result (all_scanned ss) (all_scanned ss') (all_keeps ss ss' h)
module_keeps s s' m computing.Collect p result ss ss' h = call_keeps computing.Collect None result (all_scanned ss) (all_scanned ss') (all_keeps ss ss' h)
module_keeps s s' m computing.CollectNamed p result ss ss' h = call_keeps computing.CollectNamed None result (all_scanned ss) (all_scanned ss') (all_keeps ss ss' h)
module_keeps s s' m computing.CollectSeries p result ss ss' h = call_keeps computing.CollectSeries None result (all_scanned ss) (all_scanned ss') (all_keeps ss ss' h)
module_keeps s s' m computing.Inquire p result ss ss' h = call_keeps computing.Inquire None result (all_scanned ss) (all_scanned ss') (all_keeps ss ss' h)

pub rule_keeps : (s s' : Sight) → More s s' → (f : Function) (p : Place) (result : ℕ) (ss ss' : List (Scanned ValueTerm)) → EachKeeps ss ss' → Keeps (rule_scanned s f p result ss) (rule_scanned s' f p result ss')
rule_keeps s s' m (function.Module mo) p result ss ss' h = module_keeps s s' m mo p result ss ss' h
rule_keeps s s' m (function.Effect e) p result ss ss' h = effect_keeps e ss ss' h
rule_keeps s s' m function.Switch p result ss ss' h = selector_keeps s s' m function.Switch p result ss ss' h
rule_keeps s s' m function.Route p result ss ss' h = selector_keeps s s' m function.Route p result ss ss' h
rule_keeps s s' m function.GetLocal p result ss ss' h = selector_keeps s s' m function.GetLocal p result ss ss' h
rule_keeps s s' m function.GetGlobal p result ss ss' h = selector_keeps s s' m function.GetGlobal p result ss ss' h

mutual
  -- what is resolved stays so
  pub scan_keeps : (s s' : Sight) → More s s' → (t : Tree) → Keeps (scan s t) (scan s' t)
  scan_keeps s s' m (ConstantTree c) = refl
  scan_keeps s s' m (ResultTree result (TreeCall f p args)) =
      rule_keeps s s' m f p result (scan_each s args) (scan_each s' args) (each_keeps s s' m args)

  pub each_keeps : (s s' : Sight) → More s s' → (ts : Trees) → EachKeeps (scan_each s ts) (scan_each s' ts)
  each_keeps s s' m NoTree = tt
  each_keeps s s' m (AndTree t ts) = (scan_keeps s s' m t, each_keeps s s' m ts)
