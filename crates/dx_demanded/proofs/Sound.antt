-- The state of the cache machine stays sound over each effect.
use Rattle.std.proofs.Common.{◌≡◌, ℕ, zero, suc, ◌≤◌, List, [], ◌∷◌, ◌++◌, map, Option, Some, None, Bool, true, false, refl, sym, ap, subst}
use Rattle.std.specs.Prelude.{if◌then◌else◌, option_map, ℤ, pos, negsuc, ◌==◌}
use Rattle.dx_base.specs.ObjectNumbers.{as_number}
use Rattle.dx_base.specs.declared.function.Function.{Function}
use Rattle.dx_base.specs.declared.function.Function.TheVariants as function
use Rattle.dx_base.specs.declared.function.Module.{Module}
use Rattle.dx_base.specs.declared.function.Module.TheVariants as computing
use Rattle.dx_base.specs.declared.function.Effect.{Effect}
use Rattle.dx_base.specs.declared.function.Effect.TheVariants as effect
use Rattle.dx_macros.specs.Tree.{Place, Tree, ConstantTree, ResultTree, TreeCall, Trees, NoTree, AndTree}
use Rattle.dx_tags.specs.Closed.{ValueTerm, ValueTerms}
use Rattle.dx_links.specs.declared.key.Key.{Key}
use Rattle.dx_links.specs.declared.key.Key.TheVariants as key
use Rattle.dx_links.specs.Denotes.{Around}
use Rattle.dx_machine.specs.Machine.{FormedCall, Frame, State, Got, Went, Stopped, and_then, state_at, get_all}
use Rattle.dx_machine.specs.Sound.{IsSound, HaveAttributes}
use Rattle.dx_machine.proofs.Keeping.{getting_all_keeps}
use Rattle.dx_meaning.specs.Outcome.{Value}
use Rattle.dx_meaning.specs.Met.{Called}
use Rattle.dx_meaning.specs.Picking.{Pick, PickThis, PickInput, PickOff, PickFault, numbered, switch_number, switch_pick, routed, route_number, route_pick, link_name, held_or, get_pick, key_in, pick, selector_at}
use Rattle.dx_meaning.specs.Scan.{Sight, Scanned, Forms, Ends, scanned_at, all_scanned, scan_each, written_for}
use Rattle.dx_meaning.specs.Forming.{Formed, FormsValue, FormsCall, Formings, null_forms, forms_at, forms_beside, all_forms, file_forms, call_formed, call_forms, called_forms, forms_in, picked_forms, valued_forms, told_forms, selected_forms, selector_forms, effect_forms, module_forms, rule_forms, forms, each_forms, is_called, forming, after}
use Rattle.dx_performing.specs.Kept.{Kept}
use Rattle.dx_performing.specs.Course.{Fixed, At, Looked, sight_of, frame_with, formed_call, formed_calls, as_terms, look_at, get_scanned, effect_got, worked}
use Rattle.dx_performing.specs.SoundEntries.{IsLawfulTree, AreLawfulTrees}
use Rattle.dx_performing.proofs.EntriesSound.{StandsSound}

-- ---- what is formed is lawful

abbrev FormsLawful : List Formed → Type 0
FormsLawful [] = Unit {0}
FormsLawful (FormsValue t ∷ fs) = FormsLawful fs
FormsLawful (FormsCall c ∷ fs) = (c.place.cache ≤ 2) × FormsLawful fs

lawful-append : (fs gs : List Formed) → FormsLawful fs → FormsLawful gs → FormsLawful (fs ++ gs)
lawful-append [] gs p q = q
lawful-append (FormsValue t ∷ fs) gs p q = lawful-append fs gs p q
lawful-append (FormsCall c ∷ fs) gs p q = (p.0, lawful-append fs gs p.1 q)

abbrev EachLawful : List (List Formed) → Type 0
EachLawful [] = Unit {0}
EachLawful (fs ∷ each) = FormsLawful fs × EachLawful each

at_lawful : (each : List (List Formed)) → EachLawful each → (n : ℕ) → FormsLawful (forms_at each n)
at_lawful [] h n = tt
at_lawful (fs ∷ each) h zero = h.0
at_lawful (fs ∷ each) h (suc n) = at_lawful each h.1 n

beside_lawful : (x : Scanned ValueTerm) (own rest : List Formed) → FormsLawful own → FormsLawful rest → FormsLawful (forms_beside x own rest)
beside_lawful (Forms t) own rest p q = lawful-append own rest p q
beside_lawful (Ends e) own rest p q = p

all_lawful : (xs : List (Scanned ValueTerm)) (each : List (List Formed)) → EachLawful each → FormsLawful (all_forms xs each)
all_lawful [] each h = tt
all_lawful (x ∷ xs) [] h = tt
all_lawful (x ∷ xs) (fs ∷ each) h = beside_lawful x fs (all_forms xs each) h.0 (all_lawful xs each h.1)

file_lawful : (o : Option (List ℕ)) (fs : List Formed) → FormsLawful fs → FormsLawful (file_forms o ++ fs)
file_lawful None fs h = h
file_lawful (Some bytes) fs h = h

call_lawful : (p : Place) (m : Module) (file : Option (List ℕ)) (r : Scanned ValueTerms) → p.cache ≤ 2 → FormsLawful (call_forms p m file r)
call_lawful p m file (Forms ts) h = file_lawful file (call_formed p m file ts ∷ []) (h, tt)
call_lawful p m file (Ends e) h = tt

called_lawful : (p : Place) (m : Module) (file : Option (List ℕ)) (xs : List (Scanned ValueTerm)) (each : List (List Formed)) → p.cache ≤ 2 → EachLawful each → FormsLawful (called_forms p m file xs each)
called_lawful p m file xs each h e = lawful-append (all_forms xs each) (call_forms p m file (all_scanned xs)) (all_lawful xs each e) (call_lawful p m file (all_scanned xs) h)

abbrev PickLawful : Pick (List Formed) → Type 0
PickLawful (PickThis fs) = FormsLawful fs
PickLawful (PickInput n) = Unit {0}
PickLawful PickOff = Unit {0}
PickLawful PickFault = Unit {0}

picked_lawful : (each : List (List Formed)) → EachLawful each → (k : Pick (List Formed)) → PickLawful k → FormsLawful (picked_forms each k)
picked_lawful each h (PickThis fs) p = p
picked_lawful each h (PickInput n) p = at_lawful each h n
picked_lawful each h PickOff p = tt
picked_lawful each h PickFault p = tt

numbered_lawful : (k : ℤ) → PickLawful (numbered null_forms k)
numbered_lawful (pos zero) = tt
numbered_lawful (pos (suc k)) = tt
numbered_lawful (negsuc k) = tt

switch_number_lawful : (o : Option ℤ) → PickLawful (switch_number null_forms o)
switch_number_lawful (Some k) = numbered_lawful k
switch_number_lawful None = tt

switch_lawful : (v : Value) → PickLawful (switch_pick null_forms v)
switch_lawful None = tt
switch_lawful (Some t) = switch_number_lawful (as_number t)

routed_lawful : (result : ℕ) (k : ℤ) → PickLawful (routed result k)
routed_lawful result (pos k) = go (k == suc result)
  where
    go : (b : Bool) → PickLawful (if b then PickInput 1 else PickOff)
    go true = tt
    go false = tt
routed_lawful result (negsuc k) = tt

route_number_lawful : (result : ℕ) (o : Option ℤ) → PickLawful (route_number result o)
route_number_lawful result (Some k) = routed_lawful result k
route_number_lawful result None = tt

route_lawful : (result : ℕ) (v : Value) → PickLawful (route_pick result v)
route_lawful result None = tt
route_lawful result (Some t) = route_number_lawful result (as_number t)

held_lawful : (o : Option ValueTerm) → PickLawful (held_or (option_map (λ (t : ValueTerm). []) o))
held_lawful None = tt
held_lawful (Some t) = tt

get_lawful : (s : Sight) (to_key : List ℕ → Key) (result : ℕ) (name : Option (List ℕ)) → PickLawful (get_pick (forms_in s) to_key result name)
get_lawful s to_key result None = tt
get_lawful s to_key zero (Some name) = held_lawful (s.linked (to_key name))
get_lawful s to_key (suc n) (Some name) = tt

told_lawful : (s : Sight) (f : Function) (p : Place) (result : ℕ) (xs : List (Scanned ValueTerm)) (each : List (List Formed)) → ((v : Value) → FormsLawful (valued_forms s f p result xs each v)) → (o : Option Value) → FormsLawful (told_forms s f p result xs each o)
told_lawful s f p result xs each h (Some v) = h v
told_lawful s f p result xs each h None = tt

selected_lawful : (s : Sight) (f : Function) (p : Place) (result : ℕ) (xs : List (Scanned ValueTerm)) (each : List (List Formed)) → ((v : Value) → FormsLawful (valued_forms s f p result xs each v)) → (x : Scanned ValueTerm) → FormsLawful (selected_forms s f p result xs each x)
selected_lawful s f p result xs each h (Forms t) = told_lawful s f p result xs each h (s.told t)
selected_lawful s f p result xs each h (Ends e) = tt

selector_lawful : (s : Sight) (f : Function) (p : Place) (result : ℕ) (xs : List (Scanned ValueTerm)) (each : List (List Formed)) → EachLawful each → ((v : Value) → FormsLawful (valued_forms s f p result xs each v)) → FormsLawful (selector_forms s f p result xs each)
selector_lawful s f p result xs each e h =
    lawful-append (forms_at each (selector_at f)) (selected_forms s f p result xs each (scanned_at xs (selector_at f))) (at_lawful each e (selector_at f)) (selected_lawful s f p result xs each h (scanned_at xs (selector_at f)))

effect_lawful : (e : Effect) (each : List (List Formed)) → EachLawful each → FormsLawful (effect_forms e each)
effect_lawful effect.SetLocal each h = at_lawful each h 1
effect_lawful effect.SetGlobal each h = at_lawful each h 1
effect_lawful effect.Print each h = tt
effect_lawful effect.Echo each h = tt
effect_lawful effect.Export each h = tt

module _ (s : Sight) (p : Place) (h : p.cache ≤ 2) (result : ℕ) (xs : List (Scanned ValueTerm)) (each : List (List Formed)) (e : EachLawful each) where
  module_lawful : (m : Module) → FormsLawful (module_forms s m p result xs each)
  module_lawful computing.Import = selector_lawful s (function.Module computing.Import) p result xs each e (λ v. called_lawful p computing.Import (written_for s v) xs each h e)
  module_lawful m = called_lawful p m None xs each h e

  rule_lawful : (f : Function) → FormsLawful (rule_forms s f p result xs each)
  rule_lawful (function.Module m) = module_lawful m
  rule_lawful (function.Effect k) = effect_lawful k each e
  rule_lawful function.Switch = selector_lawful s function.Switch p result xs each e (λ v. picked_lawful each e (pick (forms_in s) function.Switch p result v) (switch_lawful v))
  rule_lawful function.Route = selector_lawful s function.Route p result xs each e (λ v. picked_lawful each e (pick (forms_in s) function.Route p result v) (route_lawful result v))
  rule_lawful function.GetLocal = selector_lawful s function.GetLocal p result xs each e (λ v. picked_lawful each e (pick (forms_in s) function.GetLocal p result v) (get_lawful s (key_in p) result (link_name p v)))
  rule_lawful function.GetGlobal = selector_lawful s function.GetGlobal p result xs each e (λ v. picked_lawful each e (pick (forms_in s) function.GetGlobal p result v) (get_lawful s key.Global result (link_name p v)))

mutual
  tree_lawful : (s : Sight) (t : Tree) → IsLawfulTree t → FormsLawful (forms s t)
  tree_lawful s (ConstantTree c) h = tt
  tree_lawful s (ResultTree result (TreeCall f p args)) h = rule_lawful s p h.0 result (scan_each s args) (each_forms s args) (trees_lawful s args h.1) f

  trees_lawful : (s : Sight) (ts : Trees) → AreLawfulTrees ts → EachLawful (each_forms s ts)
  trees_lawful s NoTree h = tt
  trees_lawful s (AndTree t ts) h = (tree_lawful s t h.0, trees_lawful s ts h.1)

-- ---- and so are the calls that formed their terms first

attributes-append : (fs gs : List FormedCall) → HaveAttributes fs → HaveAttributes gs → HaveAttributes (fs ++ gs)
attributes-append [] gs p q = q
attributes-append (f ∷ fs) gs p q = (p.0, attributes-append fs gs p.1 q)

map-append : (cs ds : List Called) → map formed_call (cs ++ ds) ≡ map formed_call cs ++ map formed_call ds
map-append [] ds = refl
map-append (c ∷ cs) ds = ap (λ xs. formed_call c ∷ xs) (map-append cs ds)

with_by : (b : Bool) (c : Called) (cs : List Called) → c.place.cache ≤ 2 → HaveAttributes (map formed_call cs) → HaveAttributes (map formed_call (if b then cs else cs ++ c ∷ []))
with_by true c cs h k = k
with_by false c cs h k = subst HaveAttributes (sym (map-append cs (c ∷ []))) (attributes-append (map formed_call cs) (formed_call c ∷ []) k (h, tt))

after_lawful : (fs : List Formed) (was : Formings) → FormsLawful fs → HaveAttributes (formed_calls was) → HaveAttributes (formed_calls (after fs was))
after_lawful [] was h k = k
after_lawful (FormsValue t ∷ fs) was h k = after_lawful fs (forming (FormsValue t) was) h k
after_lawful (FormsCall c ∷ fs) was h k = after_lawful fs (forming (FormsCall c) was) h.1 (with_by (is_called was.calls c.call) c was.calls h.0 k)

-- ---- the work of effects

then_sound : (a : Around) (budget : ℕ) (g : Got) (go : State → Got) → IsSound a budget (state_at g) → ((s : State) → IsSound a budget s → IsSound a budget (state_at (go s))) → IsSound a budget (state_at (and_then g go))
then_sound a budget (Went s) go p q = q s p
then_sound a budget (Stopped refused code s) go p q = p

scanned_sound : (k : Frame) (x : Scanned ValueTerms) (s : State) → HaveAttributes k.formed → IsSound k.around k.budget s → IsSound k.around k.budget (state_at (get_scanned k x s))
scanned_sound k (Forms ts) s h i = getting_all_keeps k ts s h i
scanned_sound k (Ends e) s h i = i

got_sound : (k : Frame) (looked : Looked) (s : State) → HaveAttributes k.formed → IsSound k.around k.budget s → IsSound k.around k.budget (state_at (effect_got k looked s))
got_sound k looked s h i = then_sound k.around k.budget (get_all k (as_terms looked.selectors) s) (get_scanned k looked.terms) (getting_all_keeps k (as_terms looked.selectors) s h i) (λ s1 j. scanned_sound k looked.terms s1 h j)

pub worked_sound : (x : Fixed) (k : Kept) (e : Effect) (p : Place) (args : Trees) (at : At) → AreLawfulTrees args → StandsSound x k at → StandsSound x k (worked x k e p (look_at (sight_of x k) args) at)
worked_sound x k e p args at h i =
    let s = sight_of x k in
    let looked = look_at s args in
    let formed = after_lawful looked.forms at.formings (all_lawful (scan_each s args) (each_forms s args) (trees_lawful s args h)) i.formed in
    record { state = got_sound (frame_with x k (formed_calls (after looked.forms at.formings))) looked at.state formed i.state; formed = formed }
