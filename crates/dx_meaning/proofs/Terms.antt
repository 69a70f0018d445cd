-- A tree that is neither Off nor Halt is what its term denotes.
use Rattle.std.proofs.Common.{◌≡◌, ℕ, zero, suc, ℤ, pos, negsuc, List, [], ◌∷◌, Option, Some, None, refl, sym, ap, ◌∙◌, true, false, Bool, subst}
use Rattle.std.specs.Prelude.{Result, Ok, Err, option_map, if◌then◌else◌, ◌==◌}
use Rattle.dx_base.specs.Object.{Tree as Object, text, array, field, group, composite, series, PartList}
use Rattle.dx_base.specs.ObjectNumbers.{as_number}
use Rattle.dx_base.specs.declared.code.Code.{Code}
use Rattle.dx_base.specs.declared.function.Function.{Function}
use Rattle.dx_base.specs.declared.function.Function.TheVariants as function
use Rattle.dx_base.specs.declared.function.Module.{Module}
use Rattle.dx_base.specs.declared.function.Module.TheVariants as computing
use Rattle.dx_base.specs.declared.function.Effect.{Effect}
use Rattle.dx_base.specs.declared.function.Effect.TheVariants as effect
use Rattle.dx_macros.specs.Site.{Step}
use Rattle.dx_macros.specs.Tree.{Place, Tree, ConstantTree, ResultTree, CallTree, TreeCall, Trees, NoTree, AndTree}
use Rattle.dx_objects.specs.Kinds.{text_of}
use Rattle.dx_objects.specs.Runs.{Values, Answer}
use Rattle.dx_objects.specs.Values.{value_at}
use Rattle.dx_links.specs.declared.key.Key.{Key}
use Rattle.dx_links.specs.declared.key.Key.TheVariants as key
use Rattle.dx_links.specs.Denotes.{Around, own_file, file_of, named_file, denoted_result, denoted_call, denoted_beside, denotes, results_of, all_denote}
use Rattle.dx_tags.specs.Closed.{ValueTerm, ConstantTerm, HeldTerm, ResultTerm, FileTerm, CallTerm, CallOf, ValueTerms, NoTerm, AndTerm}
use Rattle.dx_meaning.specs.Outcome.{Value, Use, Decided, Val, ErrAt, Off, HaltAt, Outcome, plainly}
use Rattle.dx_meaning.specs.Picking.{Pick, PickThis, PickInput, PickOff, PickFault, Shelf, numbered, switch_number, switch_pick, routed, route_number, route_pick, link_name, held_or, get_pick, key_in, pick, selector_at}
use Rattle.dx_meaning.specs.Meaning.{World, outcome, outcomes, outcome_at, together, beside, decided_beside, selected_with, as_selector, with_name, arguments, written_or, file_under, file_of_value, file_for, answered, module_rule, module_outcome, after_selector, by_selector, picked, values_in, selector_rule, effect_rule, by_rule}
use Rattle.dx_meaning.specs.Scan.{null_term, with_file}
use Rattle.dx_meaning.specs.Term.{Names, around, term_at, written_under, written_as, written_by, own_file_of, picked_term, selected_term, terms_with, selector_term, effect_term, term_rule, term_of, terms_of, LinksDenote, Agrees}

abbrev pub is_file_term : ValueTerm → Bool
is_file_term (ConstantTerm c) = false
is_file_term (HeldTerm n) = false
is_file_term (ResultTerm r c) = false
is_file_term (FileTerm b) = true

-- a term is no file, and its tree agrees with it
abbrev pub Right : World → Names → Decided Value → ValueTerm → Type 0
Right w n d t = Agrees d (denotes (around w n) t) × (is_file_term t ≡ false)

abbrev pub EachRight : World → Names → List (Outcome Value) → ValueTerms → Type 0
EachRight w n [] NoTerm = Unit {0}
EachRight w n [] (AndTerm t ts) = ⊥
EachRight w n (o ∷ os) NoTerm = ⊥
EachRight w n (o ∷ os) (AndTerm t ts) = Right w n o.decided t × EachRight w n os ts

at_right : (w : World) (n : Names) (os : List (Outcome Value)) (ts : ValueTerms) → EachRight w n os ts → (k : ℕ) → Right w n (outcome_at os k).decided (term_at ts k)
at_right w n [] NoTerm h k = (refl, refl)
at_right w n [] (AndTerm t ts) h k = absurd h
at_right w n (o ∷ os) NoTerm h k = absurd h
at_right w n (o ∷ os) (AndTerm t ts) h zero = h.0
at_right w n (o ∷ os) (AndTerm t ts) h (suc k) = at_right w n os ts h.1 k

-- ---- files

no_file_denotes : (a : Around) (t : ValueTerm) (ts : ValueTerms) → is_file_term t ≡ false → all_denote a (AndTerm t ts) ≡ denoted_beside (denotes a t) (all_denote a ts)
no_file_denotes a (ConstantTerm c) ts e = refl
no_file_denotes a (HeldTerm n) ts e = refl
no_file_denotes a (ResultTerm r c) ts e = refl
no_file_denotes a (FileTerm b) ts e = cc

no_file_own : (t : ValueTerm) (ts : ValueTerms) → is_file_term t ≡ false → own_file (AndTerm t ts) ≡ own_file ts
no_file_own (ConstantTerm c) ts e = refl
no_file_own (HeldTerm n) ts e = refl
no_file_own (ResultTerm r c) ts e = refl
no_file_own (FileTerm b) ts e = cc

file_behind : (w : World) (n : Names) (os : List (Outcome Value)) (ts : ValueTerms) → EachRight w n os ts → (file : Option (List ℕ)) → own_file (with_file ts file) ≡ file
file_behind w n [] NoTerm h None = refl
file_behind w n [] NoTerm h (Some b) = refl
file_behind w n [] (AndTerm t ts) h file = absurd h
file_behind w n (o ∷ os) NoTerm h file = absurd h
file_behind w n (o ∷ os) (AndTerm t ts) h file = no_file_own t (with_file ts file) h.0.1 ∙ file_behind w n os ts h.1 file

denotes_before : (w : World) (n : Names) (os : List (Outcome Value)) (ts : ValueTerms) → EachRight w n os ts → (file : Option (List ℕ)) → all_denote (around w n) (with_file ts file) ≡ all_denote (around w n) ts
denotes_before w n [] NoTerm h None = refl
denotes_before w n [] NoTerm h (Some b) = refl
denotes_before w n [] (AndTerm t ts) h file = absurd h
denotes_before w n (o ∷ os) NoTerm h file = absurd h
denotes_before w n (o ∷ os) (AndTerm t ts) h file =
    no_file_denotes (around w n) t (with_file ts file) h.0.1
    ∙ ap (denoted_beside (denotes (around w n) t)) (denotes_before w n os ts h.1 file)
    ∙ sym (no_file_denotes (around w n) t ts h.0.1)

-- ---- the arguments of a call

beside_agrees : (d : Decided Value) (e : Decided Values) (a : Result Value Code) (b : Answer) → Agrees d a → Agrees e b → Agrees (decided_beside d e) (denoted_beside a b)
beside_agrees Off e a b p q = tt
beside_agrees (HaltAt s c) e a b p q = tt
beside_agrees (ErrAt s c) Off a b p q = tt
beside_agrees (ErrAt s c) (HaltAt s' c') a b p q = tt
beside_agrees (ErrAt s c) (ErrAt s' c') a b p q = rw p refl
beside_agrees (ErrAt s c) (Val vs) a b p q = rw p refl
beside_agrees (Val v) Off a b p q = tt
beside_agrees (Val v) (HaltAt s c) a b p q = tt
beside_agrees (Val v) (ErrAt s c) a b p q = rw (p, q) refl
beside_agrees (Val v) (Val vs) a b p q = rw (p, q) refl

together_agrees : (w : World) (n : Names) (os : List (Outcome Value)) (ts : ValueTerms) → EachRight w n os ts → Agrees (together os).decided (all_denote (around w n) ts)
together_agrees w n [] NoTerm h = refl
together_agrees w n [] (AndTerm t ts) h = absurd h
together_agrees w n (o ∷ os) NoTerm h = absurd h
together_agrees w n (o ∷ os) (AndTerm t ts) h =
    subst (Agrees (decided_beside o.decided (together os).decided)) (sym (no_file_denotes (around w n) t ts h.0.1))
    (beside_agrees o.decided (together os).decided (denotes (around w n) t) (all_denote (around w n) ts) h.0.0 (together_agrees w n os ts h.1))

selected_agrees : (d : Decided Value) (us vs : List Use) (a : Result Value Code) → Agrees d a → Agrees (selected_with d us vs).decided a
selected_agrees Off us vs a h = tt
selected_agrees (HaltAt s c) us vs a h = tt
selected_agrees (ErrAt s c) us vs a h = tt
selected_agrees (Val v) us vs a h = h

named_right : (w : World) (n : Names) (os : List (Outcome Value)) (ts : ValueTerms) → EachRight w n os ts → EachRight w n (with_name os) ts
named_right w n [] NoTerm h = tt
named_right w n [] (AndTerm t ts) h = absurd h
named_right w n (o ∷ os) NoTerm h = absurd h
named_right w n (o ∷ os) (AndTerm t ts) h = ((selected_agrees o.decided o.control_uses o.data_uses (denotes (around w n) t) h.0.0, h.0.1), h.1)

-- ---- a call of a module

answered_agrees : (site : List Step) (result : ℕ) (a : Answer) → Agrees (answered site result a) (denoted_result result a)
answered_agrees site result (Ok values) = refl
answered_agrees site result (Err code) = refl

-- the file is the same where the arguments have values
abbrev SameFile : World → Names → Module → Option (List ℕ) → Decided Values → Type 0
SameFile w n m own (Val values) = file_of (around w n) m values own ≡ file_for w m values
SameFile w n m own (ErrAt s c) = Unit {0}
SameFile w n m own Off = Unit {0}
SameFile w n m own (HaltAt s c) = Unit {0}

module_agrees : (w : World) (n : Names) (m : Module) (site : List Step) (result : ℕ) (own : Option (List ℕ)) (d : Decided Values) (us vs : List Use) (a : Answer) → SameFile w n m own d → Agrees d a → Agrees (module_rule w m site result d us vs).decided (denoted_result result (denoted_call (around w n) m own a))
module_agrees w n m site result own Off us vs a f h = tt
module_agrees w n m site result own (HaltAt s c) us vs a f h = tt
module_agrees w n m site result own (ErrAt s c) us vs a f h = rw h refl
module_agrees w n m site result own (Val values) us vs a f h =
    rw (h, f) (answered_agrees site result (w.answer m values (file_for w m values)))

-- what an Import reads
text_read : (w : World) (n : Names) (t : Object) (rest : Values) → file_of (around w n) computing.Import (Some t ∷ rest) (written_as w (Some t)) ≡ file_of_value w (Some t)
text_read w n (text name xs) rest = go (w.written name)
  where
    go : (o : Option (List ℕ)) → file_of (around w n) computing.Import (Some (text name xs) ∷ rest) o ≡ written_or o (w.file name)
    go (Some bytes) = refl
    go None = refl
text_read w n (array a xs) rest = refl
text_read w n (field ps xs) rest = refl
text_read w n (group ps xs) rest = refl
text_read w n (composite ps xs) rest = refl
text_read w n (series ps xs) rest = refl

value_read : (w : World) (n : Names) (v : Value) (rest : Values) → file_of (around w n) computing.Import (v ∷ rest) (written_as w v) ≡ file_of_value w v
value_read w n None rest = refl
value_read w n (Some t) rest = text_read w n t rest

name_read : (w : World) (n : Names) (d : Decided Value) (us vs : List Use) (e : Decided Values) → SameFile w n computing.Import (written_by w d) (decided_beside (selected_with d us vs).decided e)
name_read w n Off us vs e = tt
name_read w n (HaltAt s c) us vs e = tt
name_read w n (ErrAt s c) us vs e = tt
name_read w n (Val v) us vs Off = tt
name_read w n (Val v) us vs (HaltAt s c) = tt
name_read w n (Val v) us vs (ErrAt s c) = tt
name_read w n (Val v) us vs (Val rest) = value_read w n v rest

import_read : (w : World) (n : Names) (os : List (Outcome Value)) → SameFile w n computing.Import (own_file_of w computing.Import os) (together (arguments computing.Import os)).decided
import_read w n [] = refl
import_read w n (o ∷ os) = name_read w n o.decided o.control_uses o.data_uses (together os).decided

no_read : (w : World) (n : Names) (m : Module) (d : Decided Values) → ((values : Values) → named_file (around w n) m values ≡ file_for w m values) → SameFile w n m None d
no_read w n m (Val values) h = h values
no_read w n m (ErrAt s c) h = tt
no_read w n m Off h = tt
no_read w n m (HaltAt s c) h = tt

same_file_read : (w : World) (n : Names) (m : Module) (os : List (Outcome Value)) → SameFile w n m (own_file_of w m os) (together (arguments m os)).decided
same_file_read w n computing.Import os = import_read w n os
same_file_read w n computing.Select os = no_read w n computing.Select (together os).decided (λ values. refl)
same_file_read w n computing.Extract os = no_read w n computing.Extract (together os).decided (λ values. refl)
same_file_read w n computing.Replace os = no_read w n computing.Replace (together os).decided (λ values. refl)
same_file_read w n computing.Mark os = no_read w n computing.Mark (together os).decided (λ values. refl)
same_file_read w n computing.Unmark os = no_read w n computing.Unmark (together os).decided (λ values. refl)
same_file_read w n computing.Slab os = no_read w n computing.Slab (together os).decided (λ values. refl)
same_file_read w n computing.Compute os = no_read w n computing.Compute (together os).decided (λ values. refl)
same_file_read w n computing.Statistics os = no_read w n computing.Statistics (together os).decided (λ values. refl)
same_file_read w n computing.Histogram os = no_read w n computing.Histogram (together os).decided (λ values. refl)
same_file_read w n computing.Collect os = no_read w n computing.Collect (together os).decided (λ values. refl)
same_file_read w n computing.CollectNamed os = no_read w n computing.CollectNamed (together os).decided (λ values. refl)
same_file_read w n computing.CollectSeries os = no_read w n computing.CollectSeries (together os).decided (λ values. refl)
same_file_read w n computing.Inquire os = no_read w n computing.Inquire (together os).decided (λ values. refl)

arguments_right : (w : World) (n : Names) (m : Module) (os : List (Outcome Value)) (ts : ValueTerms) → EachRight w n os ts → EachRight w n (arguments m os) ts
arguments_right w n computing.Import os ts h = named_right w n os ts h
arguments_right w n computing.Select os ts h = h
arguments_right w n computing.Extract os ts h = h
arguments_right w n computing.Replace os ts h = h
arguments_right w n computing.Mark os ts h = h
arguments_right w n computing.Unmark os ts h = h
arguments_right w n computing.Slab os ts h = h
arguments_right w n computing.Compute os ts h = h
arguments_right w n computing.Statistics os ts h = h
arguments_right w n computing.Histogram os ts h = h
arguments_right w n computing.Collect os ts h = h
arguments_right w n computing.CollectNamed os ts h = h
arguments_right w n computing.CollectSeries os ts h = h
arguments_right w n computing.Inquire os ts h = h

call_right : (w : World) (n : Names) (m : Module) (p : Place) (result : ℕ) (os : List (Outcome Value)) (ts : ValueTerms) → EachRight w n os ts →
    Right w n (module_outcome w m p.site result (together (arguments m os))).decided (ResultTerm result (CallOf m (with_file ts (own_file_of w m os))))
call_right w n m p result os ts h =
    let own = own_file_of w m os in
    let all = together (arguments m os) in
    let is : denoted_call (around w n) m (own_file (with_file ts own)) (all_denote (around w n) (with_file ts own)) ≡ denoted_call (around w n) m own (all_denote (around w n) ts) =
    ap (λ o. denoted_call (around w n) m o (all_denote (around w n) (with_file ts own))) (file_behind w n os ts h own)
    ∙ ap (denoted_call (around w n) m own) (denotes_before w n os ts h own) in (
      subst (λ a. Agrees (module_rule w m p.site result all.decided all.control_uses all.data_uses).decided (denoted_result result a)) (sym is)
          (module_agrees w n m p.site result own all.decided all.control_uses all.data_uses (all_denote (around w n) ts) (same_file_read w n m os)
          (together_agrees w n (arguments m os) ts (arguments_right w n m os ts h))),
      refl,
    )

-- ---- a call with a selector

-- the same is picked
abbrev PickRight : World → Names → Pick Value → Pick ValueTerm → Type 0
PickRight w n (PickThis v) (PickThis t) = Right w n (Val v) t
PickRight w n (PickInput k) (PickInput l) = k ≡ l
PickRight w n PickOff PickOff = Unit {0}
PickRight w n PickFault PickFault = Unit {0}
PickRight w n a b = ⊥

numbered_right : (w : World) (n : Names) (k : ℤ) → PickRight w n (numbered None k) (numbered null_term k)
numbered_right w n (pos zero) = (refl, refl)
numbered_right w n (pos (suc k)) = refl
numbered_right w n (negsuc k) = (refl, refl)

switch_number_right : (w : World) (n : Names) (o : Option ℤ) → PickRight w n (switch_number None o) (switch_number null_term o)
switch_number_right w n (Some k) = numbered_right w n k
switch_number_right w n None = tt

switch_right : (w : World) (n : Names) (v : Value) → PickRight w n (switch_pick None v) (switch_pick null_term v)
switch_right w n None = (refl, refl)
switch_right w n (Some t) = switch_number_right w n (as_number t)

routed_right : (w : World) (n : Names) (result : ℕ) (k : ℤ) → PickRight w n (routed result k) (routed result k)
routed_right w n result (pos k) = go (k == suc result)
  where
    go : (b : Bool) → PickRight w n (if b then PickInput 1 else PickOff) (if b then PickInput 1 else PickOff)
    go true = refl
    go false = tt
routed_right w n result (negsuc k) = tt

route_number_right : (w : World) (n : Names) (result : ℕ) (o : Option ℤ) → PickRight w n (route_number result o) (route_number result o)
route_number_right w n result (Some k) = routed_right w n result k
route_number_right w n result None = tt

route_right : (w : World) (n : Names) (result : ℕ) (v : Value) → PickRight w n (route_pick result v) (route_pick result v)
route_right w n result None = tt
route_right w n result (Some t) = route_number_right w n result (as_number t)

-- the term of a link that holds a value is no file
link_no_file : (a : Around) (t : ValueTerm) (o : Object) → denotes a t ≡ Ok (Some o) → is_file_term t ≡ false
link_no_file a (ConstantTerm c) o e = refl
link_no_file a (HeldTerm n) o e = refl
link_no_file a (ResultTerm r c) o e = refl
link_no_file a (FileTerm b) o e = cc

held_right : (w : World) (n : Names) (t : ValueTerm) (o : Option Object) → ((v : Object) → o ≡ Some v → denotes (around w n) t ≡ Ok (Some v)) → PickRight w n (held_or (option_map (λ v. Some v) o)) (held_or (option_map (λ (v : Object). t) o))
held_right w n t (Some v) h = (h v refl, link_no_file (around w n) t v (h v refl))
held_right w n t None h = refl

get_right : (w : World) (n : Names) → LinksDenote w n → (to_key : List ℕ → Key) (result : ℕ) (name : Option (List ℕ)) → PickRight w n (get_pick (values_in w) to_key result name) (get_pick (terms_with w n) to_key result name)
get_right w n l to_key result None = tt
get_right w n l to_key zero (Some name) = held_right w n (n.term (to_key name)) (w.link (to_key name)) (l (to_key name))
get_right w n l to_key (suc k) (Some name) = (refl, refl)

picked_right : (w : World) (n : Names) (site : List Step) (os : List (Outcome Value)) (ts : ValueTerms) → EachRight w n os ts → (a : Pick Value) (b : Pick ValueTerm) → PickRight w n a b → Right w n (picked site os a).decided (picked_term ts b)
picked_right w n site os ts h (PickThis v) (PickThis t) r = r
picked_right w n site os ts h (PickInput k) (PickInput l) r = subst (λ x. Right w n (outcome_at os k).decided (term_at ts x)) r (at_right w n os ts h k)
picked_right w n site os ts h PickOff PickOff r = (tt, refl)
picked_right w n site os ts h PickFault PickFault r = (tt, refl)
picked_right w n site os ts h (PickThis v) (PickInput l) r = absurd r
picked_right w n site os ts h (PickThis v) PickOff r = absurd r
picked_right w n site os ts h (PickThis v) PickFault r = absurd r
picked_right w n site os ts h (PickInput k) (PickThis t) r = absurd r
picked_right w n site os ts h (PickInput k) PickOff r = absurd r
picked_right w n site os ts h (PickInput k) PickFault r = absurd r
picked_right w n site os ts h PickOff (PickThis t) r = absurd r
picked_right w n site os ts h PickOff (PickInput l) r = absurd r
picked_right w n site os ts h PickOff PickFault r = absurd r
picked_right w n site os ts h PickFault (PickThis t) r = absurd r
picked_right w n site os ts h PickFault (PickInput l) r = absurd r
picked_right w n site os ts h PickFault PickOff r = absurd r

-- what a selector leads to is right, if it is so at each value
after_right : (w : World) (n : Names) (d : Decided Value) (us vs : List Use) (go : Value → Outcome Value) (go_term : Value → ValueTerm) → ((v : Value) → Right w n (go v).decided (go_term v)) →
    Right w n (after_selector (selected_with d us vs).decided (selected_with d us vs).control_uses go).decided (selected_term d go_term)
after_right w n Off us vs go go_term h = (tt, refl)
after_right w n (HaltAt s c) us vs go go_term h = (tt, refl)
after_right w n (ErrAt s c) us vs go go_term h = (tt, refl)
after_right w n (Val v) us vs go go_term h = h v

selector_right : (w : World) (n : Names) (f : Function) (p : Place) (result : ℕ) (os : List (Outcome Value)) (ts : ValueTerms) → EachRight w n os ts → ((v : Value) → PickRight w n (pick (values_in w) f p result v) (pick (terms_with w n) f p result v)) →
    Right w n (selector_rule w f p result os).decided (selector_term w n f p result os ts)
selector_right w n f p result os ts h pr =
    let o = outcome_at os (selector_at f) in
    after_right w n o.decided o.control_uses o.data_uses (λ v. picked p.site os (pick (values_in w) f p result v)) (λ v. picked_term ts (pick (terms_with w n) f p result v))
    (λ v. picked_right w n p.site os ts h (pick (values_in w) f p result v) (pick (terms_with w n) f p result v) (pr v))

-- ---- trees

effect_right : (w : World) (n : Names) (e : Effect) (os : List (Outcome Value)) (ts : ValueTerms) → EachRight w n os ts → Right w n (effect_rule e os).decided (effect_term e ts)
effect_right w n effect.SetLocal os ts h = at_right w n os ts h 1
effect_right w n effect.SetGlobal os ts h = at_right w n os ts h 1
effect_right w n effect.Print os ts h = (refl, refl)
effect_right w n effect.Echo os ts h = (refl, refl)
effect_right w n effect.Export os ts h = (refl, refl)

rule_right : (w : World) (n : Names) → LinksDenote w n → (f : Function) (p : Place) (result : ℕ) (os : List (Outcome Value)) (ts : ValueTerms) → EachRight w n os ts → Right w n (by_rule w f p result os).decided (term_rule w n f p result os ts)
rule_right w n l (function.Module m) p result os ts h = call_right w n m p result os ts h
rule_right w n l (function.Effect e) p result os ts h = effect_right w n e os ts h
rule_right w n l function.Switch p result os ts h = selector_right w n function.Switch p result os ts h (λ v. switch_right w n v)
rule_right w n l function.Route p result os ts h = selector_right w n function.Route p result os ts h (λ v. route_right w n result v)
rule_right w n l function.GetLocal p result os ts h = selector_right w n function.GetLocal p result os ts h (λ v. get_right w n l (key_in p) result (link_name p v))
rule_right w n l function.GetGlobal p result os ts h = selector_right w n function.GetGlobal p result os ts h (λ v. get_right w n l key.Global result (link_name p v))

mutual
  pub tree_right : (w : World) (n : Names) → LinksDenote w n → (t : Tree) → Right w n (outcome w t).decided (term_of w n t)
  tree_right w n l (ConstantTree c) = (refl, refl)
  tree_right w n l (ResultTree result (TreeCall f p args)) = rule_right w n l f p result (outcomes w args) (terms_of w n args) (trees_right w n l args)

  pub trees_right : (w : World) (n : Names) → LinksDenote w n → (ts : Trees) → EachRight w n (outcomes w ts) (terms_of w n ts)
  trees_right w n l NoTree = tt
  trees_right w n l (AndTree t ts) = (tree_right w n l t, trees_right w n l ts)

pub term_is_right : (w : World) (n : Names) → LinksDenote w n → (t : Tree) → Agrees (outcome w t).decided (denotes (around w n) (term_of w n t))
term_is_right w n l t = (tree_right w n l t).0
