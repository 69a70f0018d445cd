-- What a tree forms as more is told.
use Rattle.std.proofs.Common.{◌≡◌, ℕ, zero, suc, ℤ, pos, negsuc, Bool, true, false, List, [], ◌∷◌, ◌++◌, Option, Some, None, refl, sym, ap, ap₂, ◌∙◌, subst}
use Rattle.std.proofs.lemmas.List.{append_assoc, append-nil}
use Rattle.std.specs.Prelude.{option_map, if◌then◌else◌, ◌==◌}
use Rattle.dx_base.specs.ObjectNumbers.{as_number}
use Rattle.dx_links.specs.declared.key.Key.{Key}
use Rattle.dx_links.specs.declared.key.Key.TheVariants as key
use Rattle.dx_base.specs.declared.function.Function.{Function}
use Rattle.dx_base.specs.declared.function.Function.TheVariants as function
use Rattle.dx_base.specs.declared.function.Module.{Module}
use Rattle.dx_base.specs.declared.function.Module.TheVariants as computing
use Rattle.dx_base.specs.declared.function.Effect.{Effect}
use Rattle.dx_base.specs.declared.function.Effect.TheVariants as effect
use Rattle.dx_macros.specs.Tree.{Place, Tree, ConstantTree, ResultTree, CallTree, TreeCall, Trees, NoTree, AndTree}
use Rattle.dx_tags.specs.Closed.{ValueTerm, ValueTerms}
use Rattle.dx_meaning.specs.Outcome.{Value}
use Rattle.dx_meaning.specs.Picking.{Pick, PickThis, PickInput, PickOff, PickFault, numbered, switch_number, switch_pick, routed, route_number, route_pick, link_name, held_or, get_pick, key_in, pick, selector_at}
use Rattle.dx_meaning.specs.Scan.{Sight, Stop, IsOff, Stops, Needs, Scanned, Forms, Ends, scanned_beside, all_scanned, null_term, scanned_at, call_scanned, written_for, picked_scanned, terms_in, valued, told_scanned, selected, selector_scanned, effect_scanned, module_scanned, rule_scanned, scan, scan_each}
use Rattle.dx_meaning.specs.More.{More, Keeps}
use Rattle.dx_meaning.specs.Forming.{Formed, FormsValue, FormsCall, Formings, null_forms, forms_at, forms_beside, all_forms, file_forms, call_formed, call_forms, called_forms, forms_in, picked_forms, valued_forms, told_forms, selected_forms, selector_forms, effect_forms, module_forms, rule_forms, forms, each_forms, after, IsFront, FormsKeep}
use Rattle.dx_meaning.proofs.Formed.{after_again, after_front}
use Rattle.dx_meaning.proofs.Keeping.{EachKeeps, all_keeps, at_keeps, scan_keeps, each_keeps, same_file}

-- ---- fronts

front_itself : (fs : List Formed) → IsFront fs fs
front_itself fs = ([], sym (append-nil fs))

front_more : (fs gs more : List Formed) → IsFront fs gs → IsFront fs (gs ++ more)
front_more fs gs more f = (f.0 ++ more, ap (λ x. x ++ more) f.1 ∙ append_assoc fs f.0 more)

front_behind : (fs gs hs : List Formed) → IsFront gs hs → IsFront (fs ++ gs) (fs ++ hs)
front_behind fs gs hs f = (f.0, ap (λ x. fs ++ x) f.1 ∙ sym (append_assoc fs gs f.0))

as_front : {A : Type 0} (x : Scanned A) (fs gs : List Formed) → FormsKeep x fs gs → IsFront fs gs
as_front (Forms x) fs gs k = subst (IsFront fs) (sym k) (front_itself fs)
as_front (Ends IsOff) fs gs k = subst (IsFront fs) (sym k) (front_itself fs)
as_front (Ends (Stops site code)) fs gs k = subst (IsFront fs) (sym k) (front_itself fs)
as_front (Ends (Needs site t)) fs gs k = k

as_kept : {A : Type 0} (x : Scanned A) (fs gs : List Formed) → gs ≡ fs → FormsKeep x fs gs
as_kept (Forms x) fs gs e = e
as_kept (Ends IsOff) fs gs e = e
as_kept (Ends (Stops site code)) fs gs e = e
as_kept (Ends (Needs site t)) fs gs e = subst (IsFront fs) (sym e) (front_itself fs)

-- what is formed behind the same
kept_behind : {A : Type 0} (x : Scanned A) (own fs gs : List Formed) → FormsKeep x fs gs → FormsKeep x (own ++ fs) (own ++ gs)
kept_behind (Forms x) own fs gs k = ap (λ y. own ++ y) k
kept_behind (Ends IsOff) own fs gs k = ap (λ y. own ++ y) k
kept_behind (Ends (Stops site code)) own fs gs k = ap (λ y. own ++ y) k
kept_behind (Ends (Needs site t)) own fs gs k = front_behind own fs gs k

-- ---- inputs

abbrev pub EachFormsKeep : List (Scanned ValueTerm) → List (List Formed) → List (List Formed) → Type 0
EachFormsKeep [] [] [] = Unit {0}
EachFormsKeep (s ∷ ss) (fs ∷ each) (gs ∷ each') = FormsKeep s fs gs × EachFormsKeep ss each each'
EachFormsKeep _ _ _ = ⊥

pub forms_at_keep : (ss : List (Scanned ValueTerm)) (each each' : List (List Formed)) → EachFormsKeep ss each each' → (n : ℕ) → FormsKeep (scanned_at ss n) (forms_at each n) (forms_at each' n)
forms_at_keep [] [] [] h n = refl
forms_at_keep (s ∷ ss) (fs ∷ each) (gs ∷ each') h zero = h.0
forms_at_keep (s ∷ ss) (fs ∷ each) (gs ∷ each') h (suc n) = forms_at_keep ss each each' h.1 n
forms_at_keep [] [] (gs ∷ each') h n = absurd h
forms_at_keep [] (fs ∷ each) [] h n = absurd h
forms_at_keep [] (fs ∷ each) (gs ∷ each') h n = absurd h
forms_at_keep (s ∷ ss) [] [] h n = absurd h
forms_at_keep (s ∷ ss) [] (gs ∷ each') h n = absurd h
forms_at_keep (s ∷ ss) (fs ∷ each) [] h n = absurd h

beside_front : (s' : Scanned ValueTerm) (fs gs rest' : List Formed) → IsFront fs gs → IsFront fs (forms_beside s' gs rest')
beside_front (Forms t) fs gs rest' f = front_more fs gs rest' f
beside_front (Ends e) fs gs rest' f = f

beside_kept : (s s' : Scanned ValueTerm) (r : Scanned ValueTerms) (fs gs rest rest' : List Formed) → Keeps s s' → FormsKeep s fs gs → FormsKeep r rest rest' → FormsKeep (scanned_beside s r) (forms_beside s fs rest) (forms_beside s' gs rest')
beside_kept (Ends IsOff) s' r fs gs rest rest' p k q = rw p k
beside_kept (Ends (Stops site code)) s' r fs gs rest rest' p k q = rw p k
beside_kept (Ends (Needs site t)) s' r fs gs rest rest' p k q = beside_front s' fs gs rest' k
beside_kept (Forms t) s' (Ends IsOff) fs gs rest rest' p k q = rw (p, k, q) refl
beside_kept (Forms t) s' (Ends (Stops site code)) fs gs rest rest' p k q = rw (p, k, q) refl
beside_kept (Forms t) s' (Ends (Needs site u)) fs gs rest rest' p k q = rw (p, k) (front_behind fs rest rest' q)
beside_kept (Forms t) s' (Forms ts) fs gs rest rest' p k q = rw (p, k, q) refl

all_forms_keep : (ss ss' : List (Scanned ValueTerm)) (each each' : List (List Formed)) → EachKeeps ss ss' → EachFormsKeep ss each each' → FormsKeep (all_scanned ss) (all_forms ss each) (all_forms ss' each')
all_forms_keep [] [] [] [] h k = refl
all_forms_keep (s ∷ ss) (s' ∷ ss') (fs ∷ each) (gs ∷ each') h k =
    beside_kept s s' (all_scanned ss) fs gs (all_forms ss each) (all_forms ss' each') h.0 k.0 (all_forms_keep ss ss' each each' h.1 k.1)
all_forms_keep [] [] [] (gs ∷ each') h k = absurd k
all_forms_keep [] [] (fs ∷ each) [] h k = absurd k
all_forms_keep [] [] (fs ∷ each) (gs ∷ each') h k = absurd k
all_forms_keep [] (s' ∷ ss') each each' h k = absurd h
all_forms_keep (s ∷ ss) [] each each' h k = absurd h
all_forms_keep (s ∷ ss) (s' ∷ ss') [] [] h k = absurd k
all_forms_keep (s ∷ ss) (s' ∷ ss') [] (gs ∷ each') h k = absurd k
all_forms_keep (s ∷ ss) (s' ∷ ss') (fs ∷ each) [] h k = absurd k

-- ---- a call of a module

call_kept : (p : Place) (m : Module) (file : Option (List ℕ)) (result : ℕ) (s s' : Scanned ValueTerms) (fs gs : List Formed) → Keeps s s' → FormsKeep s fs gs →
    FormsKeep (call_scanned m file result s) (fs ++ call_forms p m file s) (gs ++ call_forms p m file s')
call_kept p m file result (Forms ts) s' fs gs h k = rw (h, k) refl
call_kept p m file result (Ends IsOff) s' fs gs h k = rw (h, k) refl
call_kept p m file result (Ends (Stops site code)) s' fs gs h k = rw (h, k) refl
call_kept p m file result (Ends (Needs site t)) s' fs gs h k = subst (λ x. IsFront x (gs ++ call_forms p m file s')) (sym (append-nil fs)) (front_more fs gs (call_forms p m file s') k)

called_kept : (p : Place) (m : Module) (file : Option (List ℕ)) (result : ℕ) (ss ss' : List (Scanned ValueTerm)) (each each' : List (List Formed)) → EachKeeps ss ss' → EachFormsKeep ss each each' →
    FormsKeep (call_scanned m file result (all_scanned ss)) (called_forms p m file ss each) (called_forms p m file ss' each')
called_kept p m file result ss ss' each each' h k =
    call_kept p m file result (all_scanned ss) (all_scanned ss') (all_forms ss each) (all_forms ss' each') (all_keeps ss ss' h) (all_forms_keep ss ss' each each' h k)

-- ---- a call that looks at a selector

-- a pick of terms and one of what is formed are of one kind
abbrev pub PicksAlike : Pick ValueTerm → Pick (List Formed) → Type 0
PicksAlike (PickThis t) (PickThis fs) = Unit {0}
PicksAlike (PickInput n) (PickInput k) = n ≡ k
PicksAlike PickOff PickOff = Unit {0}
PicksAlike PickFault PickFault = Unit {0}
PicksAlike _ _ = ⊥

numbered_alike : (s : Sight) (n : ℤ) → PicksAlike (numbered null_term n) (numbered null_forms n)
numbered_alike s (pos zero) = tt
numbered_alike s (pos (suc k)) = refl
numbered_alike s (negsuc k) = tt

switch_alike : (s : Sight) (o : Option ℤ) → PicksAlike (switch_number null_term o) (switch_number null_forms o)
switch_alike s (Some n) = numbered_alike s n
switch_alike s None = tt

routed_alike : (result : ℕ) (b : Bool) → PicksAlike (if b then PickInput 1 else PickOff) (if b then PickInput 1 else PickOff)
routed_alike result true = refl
routed_alike result false = tt

route_alike : (result : ℕ) (o : Option ℤ) → PicksAlike (route_number result o) (route_number result o)
route_alike result (Some (pos k)) = routed_alike result (k == suc result)
route_alike result (Some (negsuc k)) = tt
route_alike result None = tt

held_alike : (o : Option ValueTerm) → PicksAlike (held_or o) (held_or (option_map (λ (t : ValueTerm). []) o))
held_alike (Some t) = tt
held_alike None = refl

get_alike : (s : Sight) (to_key : List ℕ → Key) (result : ℕ) (o : Option (List ℕ)) → PicksAlike (get_pick (terms_in s) to_key result o) (get_pick (forms_in s) to_key result o)
get_alike s to_key result None = tt
get_alike s to_key zero (Some name) = held_alike (s.linked (to_key name))
get_alike s to_key (suc n) (Some name) = tt

-- the same is picked, whatever it is picked from
pub pick_alike : (s : Sight) (f : Function) (p : Place) (result : ℕ) (v : Value) → PicksAlike (pick (terms_in s) f p result v) (pick (forms_in s) f p result v)
pick_alike s function.Switch p result None = tt
pick_alike s function.Switch p result (Some t) = switch_alike s (as_number t)
pick_alike s function.Route p result None = tt
pick_alike s function.Route p result (Some t) = route_alike result (as_number t)
pick_alike s function.GetLocal p result v = get_alike s (key_in p) result (link_name p v)
pick_alike s function.GetGlobal p result v = get_alike s key.Global result (link_name p v)
pick_alike s (function.Module m) p result v = tt
pick_alike s (function.Effect e) p result v = tt

picked_kept : (p : Place) (ss : List (Scanned ValueTerm)) (each each' : List (List Formed)) → EachFormsKeep ss each each' → (k : Pick ValueTerm) (j : Pick (List Formed)) → PicksAlike k j →
    FormsKeep (picked_scanned p ss k) (picked_forms each j) (picked_forms each' j)
picked_kept p ss each each' h (PickThis t) (PickThis fs) a = refl
picked_kept p ss each each' h (PickInput n) (PickInput k) a = subst (λ x. FormsKeep (scanned_at ss n) (forms_at each x) (forms_at each' x)) a (forms_at_keep ss each each' h n)
picked_kept p ss each each' h PickOff PickOff a = refl
picked_kept p ss each each' h PickFault PickFault a = refl
picked_kept p ss each each' h (PickThis t) (PickInput k) a = absurd a
picked_kept p ss each each' h (PickThis t) PickOff a = absurd a
picked_kept p ss each each' h (PickThis t) PickFault a = absurd a
picked_kept p ss each each' h (PickInput n) (PickThis fs) a = absurd a
picked_kept p ss each each' h (PickInput n) PickOff a = absurd a
picked_kept p ss each each' h (PickInput n) PickFault a = absurd a
picked_kept p ss each each' h PickOff (PickThis fs) a = absurd a
picked_kept p ss each each' h PickOff (PickInput k) a = absurd a
picked_kept p ss each each' h PickOff PickFault a = absurd a
picked_kept p ss each each' h PickFault (PickThis fs) a = absurd a
picked_kept p ss each each' h PickFault (PickInput k) a = absurd a
picked_kept p ss each each' h PickFault PickOff a = absurd a

-- the same is at hand
pub same_forms : (s s' : Sight) → More s s' → forms_in s' ≡ forms_in s
same_forms s s' m = λ i. record { null = null_forms; text = (forms_in s).text; held = λ k. option_map (λ (t : ValueTerm). []) (m.linked i k) }

valued_kept : (s s' : Sight) → More s s' → (f : Function) (p : Place) (result : ℕ) (ss ss' : List (Scanned ValueTerm)) (each each' : List (List Formed)) → EachKeeps ss ss' → EachFormsKeep ss each each' → (v : Value) →
    FormsKeep (valued s f p result ss v) (valued_forms s f p result ss each v) (valued_forms s' f p result ss' each' v)
valued_kept s s' m (function.Module mo) p result ss ss' each each' h k v = rw (same_file s s' m v) (called_kept p mo (written_for s v) result ss ss' each each' h k)
valued_kept s s' m (function.Effect e) p result ss ss' each each' h k v = refl
valued_kept s s' m function.Switch p result ss ss' each each' h k v = picked_kept p ss each each' k (pick (terms_in s) function.Switch p result v) (pick (forms_in s) function.Switch p result v) (pick_alike s function.Switch p result v)
valued_kept s s' m function.Route p result ss ss' each each' h k v = picked_kept p ss each each' k (pick (terms_in s) function.Route p result v) (pick (forms_in s) function.Route p result v) (pick_alike s function.Route p result v)
valued_kept s s' m function.GetLocal p result ss ss' each each' h k v = rw (same_forms s s' m) (picked_kept p ss each each' k (pick (terms_in s) function.GetLocal p result v) (pick (forms_in s) function.GetLocal p result v) (pick_alike s function.GetLocal p result v))
valued_kept s s' m function.GetGlobal p result ss ss' each each' h k v = rw (same_forms s s' m) (picked_kept p ss each each' k (pick (terms_in s) function.GetGlobal p result v) (pick (forms_in s) function.GetGlobal p result v) (pick_alike s function.GetGlobal p result v))

told_kept : (s s' : Sight) → More s s' → (f : Function) (p : Place) (result : ℕ) (ss ss' : List (Scanned ValueTerm)) (each each' : List (List Formed)) → EachKeeps ss ss' → EachFormsKeep ss each each' →
    (t : ValueTerm) (o o' : Option Value) → ((v : Value) → o ≡ Some v → o' ≡ Some v) → FormsKeep (told_scanned s f p result ss t o) (told_forms s f p result ss each o) (told_forms s' f p result ss' each' o')
told_kept s s' m f p result ss ss' each each' h k t None o' e = (told_forms s' f p result ss' each' o', refl)
told_kept s s' m f p result ss ss' each each' h k t (Some v) o' e = rw (e v refl) (valued_kept s s' m f p result ss ss' each each' h k v)

selected_kept : (s s' : Sight) → More s s' → (f : Function) (p : Place) (result : ℕ) (ss ss' : List (Scanned ValueTerm)) (each each' : List (List Formed)) → EachKeeps ss ss' → EachFormsKeep ss each each' →
    (a a' : Scanned ValueTerm) (fs gs : List Formed) → Keeps a a' → FormsKeep a fs gs → FormsKeep (selected s f p result ss a) (fs ++ selected_forms s f p result ss each a) (gs ++ selected_forms s' f p result ss' each' a')
selected_kept s s' m f p result ss ss' each each' h k (Forms t) a' fs gs x y =
    rw (x, y) (kept_behind (told_scanned s f p result ss t (s.told t)) fs (told_forms s f p result ss each (s.told t)) (told_forms s' f p result ss' each' (s'.told t))
    (told_kept s s' m f p result ss ss' each each' h k t (s.told t) (s'.told t) (m.told t)))
selected_kept s s' m f p result ss ss' each each' h k (Ends IsOff) a' fs gs x y = rw (x, y) refl
selected_kept s s' m f p result ss ss' each each' h k (Ends (Stops site code)) a' fs gs x y = rw (x, y) refl
selected_kept s s' m f p result ss ss' each each' h k (Ends (Needs site t)) a' fs gs x y =
    subst (λ z. IsFront z (gs ++ selected_forms s' f p result ss' each' a')) (sym (append-nil fs)) (front_more fs gs (selected_forms s' f p result ss' each' a') y)

selector_kept : (s s' : Sight) → More s s' → (f : Function) (p : Place) (result : ℕ) (ss ss' : List (Scanned ValueTerm)) (each each' : List (List Formed)) → EachKeeps ss ss' → EachFormsKeep ss each each' →
    FormsKeep (selector_scanned s f p result ss) (selector_forms s f p result ss each) (selector_forms s' f p result ss' each')
selector_kept s s' m f p result ss ss' each each' h k =
    let n = selector_at f in
    selected_kept s s' m f p result ss ss' each each' h k (scanned_at ss n) (scanned_at ss' n) (forms_at each n) (forms_at each' n) (at_keeps ss ss' h n) (forms_at_keep ss each each' k n)

-- ---- rules

effect_kept : (e : Effect) (ss : List (Scanned ValueTerm)) (each each' : List (List Formed)) → EachFormsKeep ss each each' → FormsKeep (effect_scanned e ss) (effect_forms e each) (effect_forms e each')
effect_kept effect.SetLocal ss each each' k = forms_at_keep ss each each' k 1
effect_kept effect.SetGlobal ss each each' k = forms_at_keep ss each each' k 1
effect_kept effect.Print ss each each' k = refl
effect_kept effect.Echo ss each each' k = refl
effect_kept effect.Export ss each each' k = refl

module_kept : (s s' : Sight) → More s s' → (mo : Module) (p : Place) (result : ℕ) (ss ss' : List (Scanned ValueTerm)) (each each' : List (List Formed)) → EachKeeps ss ss' → EachFormsKeep ss each each' →
    FormsKeep (module_scanned s mo p result ss) (module_forms s mo p result ss each) (module_forms s' mo p result ss' each')
module_kept s s' m computing.Import p result ss ss' each each' h k = selector_kept s s' m (function.Module computing.Import) p result ss ss' each each' h k
module_kept s s' m computing.Select p result ss ss' each each' h k = called_kept p computing.Select None result ss ss' each each' h k
module_kept s s' m computing.Extract p result ss ss' each each' h k = called_kept p computing.Extract None result ss ss' each each' h k
module_kept s s' m computing.Replace p result ss ss' each each' h k = called_kept p computing.Replace None result ss ss' each each' h k
module_kept s s' m computing.Mark p result ss ss' each each' h k = called_kept p computing.Mark None result ss ss' each each' h k
module_kept s s' m computing.Unmark p result ss ss' each each' h k = called_kept p computing.Unmark None result ss ss' each each' h k
module_kept s s' m computing.Slab p result ss ss' each each' h k = called_kept p computing.Slab None result ss ss' each each' h k
module_kept s s' m computing.Compute p result ss ss' each each' h k = called_kept p computing.Compute None result ss ss' each each' h k
module_kept s s' m computing.Statistics p result ss ss' each each' h k = called_kept p computing.Statistics None result ss ss' each each' h k
module_kept s s' m computing.Histogram p result ss ss' each each' h k = called_kept p computing.Histogram None result ss ss' each each' h k
module_kept s s' m computing.Collect p result ss ss' each each' h k = called_kept p computing.Collect None result ss ss' each each' h k
module_kept s s' m computing.CollectNamed p result ss ss' each each' h k = called_kept p computing.CollectNamed None result ss ss' each each' h k
module_kept s s' m computing.CollectSeries p result ss ss' each each' h k = called_kept p computing.CollectSeries None result ss ss' each each' h k
module_kept s s' m computing.Inquire p result ss ss' each each' h k = called_kept p computing.Inquire None result ss ss' each each' h k

rule_kept : (s s' : Sight) → More s s' → (f : Function) (p : Place) (result : ℕ) (ss ss' : List (Scanned ValueTerm)) (each each' : List (List Formed)) → EachKeeps ss ss' → EachFormsKeep ss each each' →
    FormsKeep (rule_scanned s f p result ss) (rule_forms s f p result ss each) (rule_forms s' f p result ss' each')
rule_kept s s' m (function.Module mo) p result ss ss' each each' h k = module_kept s s' m mo p result ss ss' each each' h k
rule_kept s s' m (function.Effect e) p result ss ss' each each' h k = effect_kept e ss each each' k
rule_kept s s' m function.Switch p result ss ss' each each' h k = selector_kept s s' m function.Switch p result ss ss' each each' h k
rule_kept s s' m function.Route p result ss ss' each each' h k = selector_kept s s' m function.Route p result ss ss' each each' h k
rule_kept s s' m function.GetLocal p result ss ss' each each' h k = selector_kept s s' m function.GetLocal p result ss ss' each each' h k
rule_kept s s' m function.GetGlobal p result ss ss' each each' h k = selector_kept s s' m function.GetGlobal p result ss ss' each each' h k

mutual
  -- what a tree forms stays
  pub forms_keep : (s s' : Sight) → More s s' → (t : Tree) → FormsKeep (scan s t) (forms s t) (forms s' t)
  forms_keep s s' m (ConstantTree c) = refl
  forms_keep s s' m (ResultTree result (TreeCall f p args)) =
      rule_kept s s' m f p result (scan_each s args) (scan_each s' args) (each_forms s args) (each_forms s' args) (each_keeps s s' m args) (each_forms_keep s s' m args)

  pub each_forms_keep : (s s' : Sight) → More s s' → (ts : Trees) → EachFormsKeep (scan_each s ts) (each_forms s ts) (each_forms s' ts)
  each_forms_keep s s' m NoTree = tt
  each_forms_keep s s' m (AndTree t ts) = (forms_keep s s' m t, each_forms_keep s s' m ts)

-- so looking may start anew
pub forms_once : (s s' : Sight) → More s s' → (t : Tree) (was : Formings) → after (forms s' t) (after (forms s t) was) ≡ after (forms s' t) was
forms_once s s' m t was =
    let f = as_front (scan s t) (forms s t) (forms s' t) (forms_keep s s' m t) in
    subst (λ gs. after gs (after (forms s t) was) ≡ after gs was) (sym f.1) (after_front (forms s t) f.0 was)
