-- Terms and calls that are formed, by their tags.
use Rattle.std.proofs.Common.{◌≡◌, ◌⊎◌, ⊎_elim, inl, inr, ℕ, zero, suc, ◌+◌, ◌<◌, List, [], ◌∷◌, ◌++◌, length, map, Option, Some, None, Bool, true, false, refl, sym, ap, ap₂, ◌∙◌, subst, arith, length-append}
use Rattle.std.specs.Prelude.{slice_get, is_some, cond, ◌==◌, ◌||◌, Result, Ok, Err, IfOk, OnOk}
use Rattle.std.specs.Cmp.{unsigned_Decides}
use Rattle.indexmap.specs.IndexMap.{insert_entry}
use Rattle.dx_graph.specs.Graph.{Node, node_at}
use Rattle.dx_tags.specs.declared.term.Term.{Term}
use Rattle.dx_tags.specs.Closed.{ValueTerm, FileTerm, ResultTerm, CallTerm, Head, ConstantHead, HeldHead, CallHead, FileHead, head_at, head_of, heads_of, heads_after, result_of_head, AllFormed, AreDistinct, HasMore, GoesOn, NamesExactly}
use Rattle.dx_tags.proofs.Growth.{heads_stay, heads_grow, longer}
use Rattle.dx_tags.proofs.ClosedTerms.{head_unfolds, names_exactly}
use Rattle.dx_links.specs.Getting.{same_value, same_call, has_value}
use Rattle.dx_meaning.specs.Met.{Called}
use Rattle.dx_meaning.specs.Forming.{FormsValue, FormsCall, is_called, with_term, with_called, file_forms, forming, after}
use Rattle.dx_meaning.proofs.SameTerms.{value_is, value_itself, call_is, call_itself, same_test}
use Rattle.dx_demand.specs.Memo.{formed_of}
use Rattle.dx_demand.specs.Forming.{Entries, found_in, with_entry, with_own, call_in, called_at, named_terms, formings, IsCallTag, NameCalls}
use Rattle.dx_demand.specs.declared.seen.Memo.{Memo}

-- ---- the terms that are named

heads_behind : (hs : List Head) (ts us : List Term) → heads_after hs (ts ++ us) ≡ heads_after (heads_after hs ts) us
heads_behind hs [] us = refl
heads_behind hs (t ∷ ts) us = heads_behind (hs ++ head_of hs t ∷ []) ts us

map_behind : {A B : Type 0} (f : A → B) (xs ys : List A) → map f (xs ++ ys) ≡ map f xs ++ map f ys
map_behind f [] ys = refl
map_behind f (x ∷ xs) ys = ap (λ zs. f x ∷ zs) (map_behind f xs ys)

abbrev pub named_of : List Head → Term → ValueTerm
named_of hs t = result_of_head (head_of hs t) 0

pub named_more : (old : List Term) (t : Term) → named_terms (old ++ t ∷ []) ≡ named_terms old ++ named_of (heads_of old) t ∷ []
named_more old t = ap (map (λ h. result_of_head h 0)) (heads_behind [] old (t ∷ [])) ∙ map_behind (λ h. result_of_head h 0) (heads_of old) (head_of (heads_of old) t ∷ [])

-- a head is known by its first result
head_known : (h k : Head) → result_of_head h 0 ≡ result_of_head k 0 → h ≡ k
head_known (ConstantHead c) (ConstantHead d) e = cc
head_known (HeldHead n) (HeldHead m) e = cc
head_known (CallHead c) (CallHead d) e = cc
head_known (FileHead b) (FileHead d) e = cc
head_known (ConstantHead c) (HeldHead n) e = cc
head_known (ConstantHead c) (CallHead d) e = cc
head_known (ConstantHead c) (FileHead d) e = cc
head_known (HeldHead n) (ConstantHead c) e = cc
head_known (HeldHead n) (CallHead d) e = cc
head_known (HeldHead n) (FileHead d) e = cc
head_known (CallHead c) (ConstantHead d) e = cc
head_known (CallHead c) (HeldHead n) e = cc
head_known (CallHead c) (FileHead d) e = cc
head_known (FileHead b) (ConstantHead d) e = cc
head_known (FileHead b) (HeldHead n) e = cc
head_known (FileHead b) (CallHead d) e = cc

or_true : (a b : Bool) → (a || b) ≡ true → (a ≡ true) ⊎ (b ≡ true)
or_true true b e = inl refl
or_true false b e = inr e

or_here : (a b : Bool) → a ≡ true → (a || b) ≡ true
or_here true b e = refl
or_here false b e = cc

or_there : (a b : Bool) → b ≡ true → (a || b) ≡ true
or_there true b e = refl
or_there false b e = e

-- which tag names a term that is there
pub named_at : (hs : List Head) (u : ValueTerm) → has_value (map (λ h. result_of_head h 0) hs) u ≡ true → (n : ℕ) × (n < length hs) × (result_of_head (head_at hs n) 0 ≡ u)
named_at [] u e = cc
named_at (h ∷ hs) u e = ⊎_elim
    (λ q. (0, omega arith, value_is (result_of_head h 0) u q))
    (λ q. (let r = named_at hs u q in let lt = r.1 in (suc r.0, omega (arith, lt), r.2)))
    (or_true (same_value (result_of_head h 0) u) (has_value (map (λ h. result_of_head h 0) hs) u) e)

pub there_at : (hs : List Head) (n : ℕ) → n < length hs → has_value (map (λ h. result_of_head h 0) hs) (result_of_head (head_at hs n) 0) ≡ true
there_at [] n lt = absurd (omega (arith, lt))
there_at (h ∷ hs) zero lt = or_here (same_value (result_of_head h 0) (result_of_head h 0)) (has_value (map (λ h. result_of_head h 0) hs) (result_of_head h 0)) (value_itself (result_of_head h 0))
there_at (h ∷ hs) (suc n) lt = or_there (same_value (result_of_head h 0) (result_of_head (head_at hs n) 0)) (has_value (map (λ h. result_of_head h 0) hs) (result_of_head (head_at hs n) 0)) (there_at hs n (omega (arith, lt)))

heads_long : (hs : List Head) (ts : List Term) → length (heads_after hs ts) ≡ length hs + length ts
heads_long hs [] = omega arith
heads_long hs (t ∷ ts) = (let rest = heads_long (hs ++ head_of hs t ∷ []) ts in let one = length-append hs (head_of hs t ∷ []) in omega (arith, rest, one))

pub heads_length : (ts : List Term) → length (heads_of ts) ≡ length ts
heads_length ts = (let r = heads_long [] ts in omega (arith, r))

slot_in : {A : Type 0} (xs : List A) (n : ℕ) (x : A) → slice_get xs n ≡ Some x → n < length xs
slot_in [] n x e = cc
slot_in (y ∷ xs) zero x e = omega arith
slot_in (y ∷ xs) (suc n) x e = (let r = slot_in xs n x e in omega (arith, r))

last_slot : {A : Type 0} (xs : List A) (x : A) → slice_get (xs ++ x ∷ []) (length xs) ≡ Some x
last_slot [] x = refl
last_slot (y ∷ xs) x = last_slot xs x

by_test : {P : Type 0} (b : Bool) → (b ≡ true → P) → (b ≡ false → P) → P
by_test true f g = f refl
by_test false f g = g refl

-- a term that is interned is there, and nothing else comes
pub interned_named_terms : (old new : List Term) (t : Term) (tag : ℕ) → AllFormed new → AreDistinct new → (new ≡ old) ⊎ (new ≡ old ++ t ∷ []) → AllFormed old → slice_get new tag ≡ Some t →
    named_terms new ≡ with_term (named_of (heads_of old) t) (named_terms old)
interned_named_terms old new t tag f d kept fo slot = ⊎_elim
    (λ same.
    let at : slice_get old tag ≡ Some t = subst (λ (x : List Term). slice_get x tag ≡ Some t) same slot in
    let lt : tag < length (heads_of old) = (let a = slot_in old tag t at in let b = heads_length old in omega (arith, a, b)) in
    let is : head_at (heads_of old) tag ≡ head_of (heads_of old) t = head_unfolds old fo tag t at in
    let there : has_value (named_terms old) (named_of (heads_of old) t) ≡ true = subst (λ h. has_value (named_terms old) (result_of_head h 0) ≡ true) is (there_at (heads_of old) tag lt) in
    ap named_terms same ∙ sym (unchanged (named_of (heads_of old) t) (named_terms old) there))
    (λ more. by_test (has_value (named_terms old) (named_of (heads_of old) t))
    (λ there. absurd (
    let r = named_at (heads_of old) (named_of (heads_of old) t) there in
    let lt : r.0 < length old = (let a = r.1 in let b = heads_length old in omega (arith, a, b)) in
    let g : HasMore old new = (t ∷ [], more) in
    let long : length new ≡ length old + 1 = (let a = ap length more in let b = length-append old (t ∷ []) in omega (arith, a, b)) in
    let before : head_at (heads_of new) r.0 ≡ head_of (heads_of old) t = heads_stay old new g r.0 lt ∙ head_known (head_at (heads_of old) r.0) (head_of (heads_of old) t) r.2 in
    let last : slice_get new (length old) ≡ Some t = subst (λ (x : List Term). slice_get x (length old) ≡ Some t) (sym more) (last_slot old t) in
    let own : head_at (heads_of new) (length old) ≡ head_of (heads_of old) t = head_last old t new more in
    let same : r.0 ≡ length old = names_exactly new f d r.0 (length old) (omega (arith, lt, long)) (omega (arith, long)) (before ∙ sym own) in
    omega (arith, lt, same)))
    (λ none. ap named_terms more ∙ named_more old t ∙ sym (added (named_of (heads_of old) t) (named_terms old) none)))
    kept
  where
    unchanged : (u : ValueTerm) (us : List ValueTerm) → has_value us u ≡ true → with_term u us ≡ us
    unchanged u us e = rw e refl

    added : (u : ValueTerm) (us : List ValueTerm) → has_value us u ≡ false → with_term u us ≡ us ++ u ∷ []
    added u us e = rw e refl

    head_snoc : (hs : List Head) (h : Head) → head_at (hs ++ h ∷ []) (length hs) ≡ h
    head_snoc [] h = refl
    head_snoc (k ∷ hs) h = head_snoc hs h

    head_last : (old : List Term) (t : Term) (new : List Term) → new ≡ old ++ t ∷ [] → head_at (heads_of new) (length old) ≡ head_of (heads_of old) t
    head_last old t new more = ap (λ (x : List Term). head_at (heads_of x) (length old)) more ∙ ap (λ hs. head_at hs (length old)) (heads_behind [] old (t ∷ []))
        ∙ ap (λ (n : ℕ). head_at (heads_of old ++ head_of (heads_of old) t ∷ []) n) (sym (heads_length old)) ∙ head_snoc (heads_of old) (head_of (heads_of old) t)

-- ---- the calls that formed theirs first

abbrev AllCalls : List Term → Entries → Type 0
AllCalls terms [] = Unit {0}
AllCalls terms (e ∷ es) = IsCallTag terms e.0 × AllCalls terms es

some_stays : (b : Bool) (n : ℕ) (o : Option ℕ) → is_some o ≡ true → is_some (cond b (Some n) o) ≡ true
some_stays true n o e = refl
some_stays false n o e = e

here_some : (b : Bool) (n : ℕ) (o : Option ℕ) → b ≡ true → is_some (cond b (Some n) o) ≡ true
here_some true n o e = refl
here_some false n o e = cc

all_calls : (terms : List Term) (es : Entries) → ((t : ℕ) → is_some (found_in es t) ≡ true → IsCallTag terms t) → AllCalls terms es
all_calls terms [] h = tt
all_calls terms (e ∷ es) h = (h e.0 (here_some (e.0 == e.0) e.1 (found_in es e.0) ((unsigned_Decides e.0 e.0).1 refl)), all_calls terms es (λ t s. h t (some_stays (t == e.0) e.1 (found_in es t) s)))

is_there : {A : Type 0} (o : Option A) → is_some o ≡ true → (x : A) × (o ≡ Some x)
is_there (Some x) e = (x, refl)
is_there None e = cc

pub calls_all : (terms : List Term) (m : Memo) → NameCalls terms m → AllCalls terms m.formed.entries
calls_all terms m h = all_calls terms m.formed.entries (λ t s. (let r = is_there (formed_of m t) s in h t r.0 r.1))

calls_on : (nodes : List Node) (old new : List Term) → GoesOn old new → (es : Entries) → AllCalls old es → map (called_at nodes (heads_of new)) es ≡ map (called_at nodes (heads_of old)) es
calls_on nodes old new g [] h = refl
calls_on nodes old new g (e ∷ es) h =
    ap₂ (λ (x : Called) (xs : List Called). x ∷ xs) (ap (λ k. record { place = (node_at nodes e.1).place; call = call_in k }) (heads_grow old new g e.0 h.0.within)) (calls_on nodes old new g es h.1)

-- the calls stay as there are more terms
pub calls_grow : (nodes : List Node) (old new : List Term) → GoesOn old new → (m : Memo) → NameCalls old m → (formings nodes new m).calls ≡ (formings nodes old m).calls
calls_grow nodes old new g m h = calls_on nodes old new g m.formed.entries (calls_all old m h)

pub call_tag_on : (old new : List Term) → GoesOn old new → (t : ℕ) → IsCallTag old t → IsCallTag new t
call_tag_on old new g t c = record { within = (let a = c.within in let b = longer old new g in omega (arith, a, b)); call = c.call; head = heads_grow old new g t c.within ∙ c.head }

pub name_calls_grow : (old new : List Term) → GoesOn old new → (m : Memo) → NameCalls old m → NameCalls new m
name_calls_grow old new g m h t n e = call_tag_on old new g t (h t n e)

-- a term that joins, and no call
pub value_formed : (nodes : List Node) (old new : List Term) → GoesOn old new → (m : Memo) → NameCalls old m → (u : ValueTerm) → named_terms new ≡ with_term u (named_terms old) → formings nodes new m ≡ after (FormsValue u ∷ []) (formings nodes old m)
value_formed nodes old new g m h u e = λ i. record { terms = e i; calls = calls_grow nodes old new g m h i }

-- the test of calls is that of their tags
pub same_tags : (terms : List Term) → NamesExactly terms → (a b : ℕ) (x : IsCallTag terms a) (y : IsCallTag terms b) → same_call (call_in (head_at (heads_of terms) a)) y.call ≡ (b == a)
same_tags terms exact a b x y = same_test (same_call (call_in (head_at (heads_of terms) a)) y.call) (b == a)
    (λ q.
    let one : call_in (head_at (heads_of terms) a) ≡ x.call = ap call_in x.head in
    let is : x.call ≡ y.call = sym one ∙ call_is (call_in (head_at (heads_of terms) a)) y.call q in
    let same : a ≡ b = exact a b x.within y.within (x.head ∙ ap CallHead is ∙ sym y.head) in
    (unsigned_Decides b a).1 (sym same))
    (λ q.
    let same : b ≡ a = (unsigned_Decides b a).0 q in
    let own : call_in (head_at (heads_of terms) a) ≡ y.call = ap (λ n. call_in (head_at (heads_of terms) n)) (sym same) ∙ ap call_in y.head in
    subst (λ c. same_call c y.call ≡ true) (sym own) (call_itself y.call))

found_or : (b : Bool) (n : ℕ) (o : Option ℕ) → is_some (cond b (Some n) o) ≡ (b || is_some o)
found_or true n o = refl
found_or false n o = refl

called_found : (nodes : List Node) (terms : List Term) → NamesExactly terms → (t : ℕ) (y : IsCallTag terms t) (es : Entries) → AllCalls terms es → is_called (map (called_at nodes (heads_of terms)) es) y.call ≡ is_some (found_in es t)
called_found nodes terms exact t y [] h = refl
called_found nodes terms exact t y (e ∷ es) h =
    ap₂ (λ (a b : Bool). a || b) (same_tags terms exact e.0 t h.0 y) (called_found nodes terms exact t y es h.1) ∙ sym (found_or (t == e.0) e.1 (found_in es t))

entry_called : (nodes : List Node) (terms : List Term) → NamesExactly terms → (t n : ℕ) (y : IsCallTag terms t) (es : Entries) → AllCalls terms es →
    map (called_at nodes (heads_of terms)) (with_entry es t n) ≡ with_called (record { place = (node_at nodes n).place; call = y.call }) (map (called_at nodes (heads_of terms)) es)
entry_called nodes terms exact t n y es h = by_test (is_some (found_in es t))
    (λ q.
    let there = called_found nodes terms exact t y es h ∙ q in
    ap (map (called_at nodes (heads_of terms))) (kept q) ∙ sym (unchanged there))
    (λ q.
    let none = called_found nodes terms exact t y es h ∙ q in
    ap (map (called_at nodes (heads_of terms))) (joined q) ∙ map_behind (called_at nodes (heads_of terms)) es ((t, n) ∷ [])
    ∙ ap (λ (c : CallTerm). map (called_at nodes (heads_of terms)) es ++ record { place = (node_at nodes n).place; call = c } ∷ []) (ap call_in y.head) ∙ sym (added none))
  where
    kept : is_some (found_in es t) ≡ true → with_entry es t n ≡ es
    kept q = rw q refl

    joined : is_some (found_in es t) ≡ false → with_entry es t n ≡ es ++ (t, n) ∷ []
    joined q = rw q refl

    unchanged : is_called (map (called_at nodes (heads_of terms)) es) y.call ≡ true → with_called (record { place = (node_at nodes n).place; call = y.call }) (map (called_at nodes (heads_of terms)) es) ≡ map (called_at nodes (heads_of terms)) es
    unchanged q = rw q refl

    added : is_called (map (called_at nodes (heads_of terms)) es) y.call ≡ false → with_called (record { place = (node_at nodes n).place; call = y.call }) (map (called_at nodes (heads_of terms)) es) ≡ map (called_at nodes (heads_of terms)) es ++ record { place = (node_at nodes n).place; call = y.call } ∷ []
    added q = rw q refl

-- a call term that joins, with its node
pub call_formed_by : (nodes : List Node) (old new : List Term) → GoesOn old new → AllFormed new → AreDistinct new → (m m' : Memo) → NameCalls old m → (t n : ℕ) (y : IsCallTag new t) → named_terms new ≡ with_term (ResultTerm 0 y.call) (named_terms old) → m'.formed.entries ≡ with_entry m.formed.entries t n →
    formings nodes new m' ≡ forming (FormsCall (record { place = (node_at nodes n).place; call = y.call })) (formings nodes old m)
call_formed_by nodes old new g f d m m' h t n y e entries = λ i. record {
  terms = e i;
  calls = (ap (map (called_at nodes (heads_of new))) entries
      ∙ entry_called nodes new (names_exactly new f d) t n y m.formed.entries (calls_all new m (name_calls_grow old new g m h))
      ∙ ap (with_called (record { place = (node_at nodes n).place; call = y.call })) (calls_grow nodes old new g m h)) i;
}

-- ---- an entry that is put

none_before : (b : Bool) (n : ℕ) (o : Option ℕ) → is_some (cond b (Some n) o) ≡ false → (b ≡ false) × (is_some o ≡ false)
none_before true n o e = cc
none_before false n o e = (refl, e)

pub insert_last : (es : Entries) (t n : ℕ) → is_some (found_in es t) ≡ false → insert_entry (λ (a b : ℕ). a == b) es t n ≡ es ++ (t, n) ∷ []
insert_last [] t n none = refl
insert_last (e ∷ es) t n none = (let r = none_before (t == e.0) e.1 (found_in es t) none in rw r.0 (ap (λ xs. e ∷ xs) (insert_last es t n r.1)))

pub entry_new : (es : Entries) (t n : ℕ) → is_some (found_in es t) ≡ false → with_entry es t n ≡ es ++ (t, n) ∷ []
entry_new es t n none = rw none refl

pub entry_stays : (es : Entries) (t n : ℕ) → is_some (found_in es t) ≡ true → with_entry es t n ≡ es
entry_stays es t n there = rw there refl

-- ---- what interning answers

pub on_named : {E : Type 0} (r : Result ℕ E) (old new : List Term) (t : Term) → AllFormed old → (AllFormed old → AllFormed new) → AreDistinct old → (AreDistinct old → AreDistinct new) → OnOk r ((new ≡ old) ⊎ (new ≡ old ++ t ∷ [])) → IfOk r (λ tag. slice_get new tag ≡ Some t) →
    OnOk r (named_terms new ≡ with_term (named_of (heads_of old) t) (named_terms old))
on_named (Ok tag) old new t fo f d g kept slot = interned_named_terms old new t tag (f fo) (g d) kept fo slot
on_named (Err e) old new t fo f d g kept slot = tt

-- the bytes of a file, if there is one
pub own_formed : (nodes : List Node) (old new : List Term) → GoesOn old new → (m : Memo) → NameCalls old m → (file : Option (List ℕ)) → named_terms new ≡ with_own file (named_terms old) → formings nodes new m ≡ after (file_forms file) (formings nodes old m)
own_formed nodes old new g m h None e = λ i. record { terms = e i; calls = calls_grow nodes old new g m h i }
own_formed nodes old new g m h (Some bytes) e = value_formed nodes old new g m h (FileTerm bytes) e
