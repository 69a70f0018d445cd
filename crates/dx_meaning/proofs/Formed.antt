-- To form a term again changes nothing.
use Rattle.std.proofs.Common.{◌≡◌, ℕ, zero, suc, List, [], ◌∷◌, ◌++◌, Bool, true, false, refl, sym, ap, ap₂, ◌∙◌, subst, true≢false}
use Rattle.std.specs.Prelude.{◌||◌, if◌then◌else◌}
use Rattle.dx_links.specs.Getting.{same_value, same_call, has_value}
use Rattle.dx_tags.specs.Closed.{ValueTerm, ResultTerm, CallTerm}
use Rattle.dx_meaning.specs.Met.{Called}
use Rattle.dx_meaning.specs.Forming.{Formed, FormsValue, FormsCall, Formings, is_called, with_term, with_called, forming, after, Has, HasAll, Grows}
use Rattle.dx_meaning.proofs.SameTerms.{value_itself, call_itself}

-- ---- tests

or_left : (a b : Bool) → a ≡ true → (a || b) ≡ true
or_left true b e = refl
or_left false b e = cc

or_right : (a b : Bool) → b ≡ true → (a || b) ≡ true
or_right true b e = refl
or_right false b e = e

by_test : {P : Type 0} (b : Bool) → (b ≡ true → P) → (b ≡ false → P) → P
by_test true f g = f refl
by_test false f g = g refl

or_either : (a b c : Bool) → (a || b) ≡ true → (b ≡ true → c ≡ true) → (a || c) ≡ true
or_either true b c e f = refl
or_either false b c e f = f e

value_before : (us : List ValueTerm) (t u : ValueTerm) → has_value us u ≡ true → has_value (us ++ t ∷ []) u ≡ true
value_before [] t u e = cc
value_before (v ∷ us) t u e = or_either (same_value v u) (has_value us u) (has_value (us ++ t ∷ []) u) e (value_before us t u)

value_last : (us : List ValueTerm) (t : ValueTerm) → has_value (us ++ t ∷ []) t ≡ true
value_last [] t = or_left (same_value t t) false (value_itself t)
value_last (v ∷ us) t = or_right (same_value v t) (has_value (us ++ t ∷ []) t) (value_last us t)

call_before : (cs : List Called) (c : Called) (d : CallTerm) → is_called cs d ≡ true → is_called (cs ++ c ∷ []) d ≡ true
call_before [] c d e = cc
call_before (b ∷ cs) c d e = or_either (same_call b.call d) (is_called cs d) (is_called (cs ++ c ∷ []) d) e (call_before cs c d)

call_last : (cs : List Called) (c : Called) → is_called (cs ++ c ∷ []) c.call ≡ true
call_last [] c = or_left (same_call c.call c.call) false (call_itself c.call)
call_last (b ∷ cs) c = or_right (same_call b.call c.call) (is_called (cs ++ c ∷ []) c.call) (call_last cs c)

-- ---- terms and calls

has_with : (t u : ValueTerm) (us : List ValueTerm) → has_value us u ≡ true → has_value (with_term t us) u ≡ true
has_with t u us e = by_test (has_value us t) (λ q. rw q e) (λ q. rw q (value_before us t u e))

has_own : (t : ValueTerm) (us : List ValueTerm) → has_value (with_term t us) t ≡ true
has_own t us = by_test (has_value us t) (λ q. rw q q) (λ q. rw q (value_last us t))

term_same : (t : ValueTerm) (us : List ValueTerm) → has_value us t ≡ true → with_term t us ≡ us
term_same t us e = rw e refl

called_with : (c : Called) (d : CallTerm) (cs : List Called) → is_called cs d ≡ true → is_called (with_called c cs) d ≡ true
called_with c d cs e = by_test (is_called cs c.call) (λ q. rw q e) (λ q. rw q (call_before cs c d e))

called_own : (c : Called) (cs : List Called) → is_called (with_called c cs) c.call ≡ true
called_own c cs = by_test (is_called cs c.call) (λ q. rw q q) (λ q. rw q (call_last cs c))

called_same : (c : Called) (cs : List Called) → is_called cs c.call ≡ true → with_called c cs ≡ cs
called_same c cs e = rw e refl

-- ---- what is there

pub grows_itself : (was : Formings) → Grows was was
grows_itself was f h = h

pub grows_then : (a b c : Formings) → Grows a b → Grows b c → Grows a c
grows_then a b c g h f x = h f (g f x)

pub all_grow : (was now : Formings) → Grows was now → (fs : List Formed) → HasAll was fs → HasAll now fs
all_grow was now g [] h = tt
all_grow was now g (f ∷ fs) h = (g f h.0, all_grow was now g fs h.1)

pub forming_grows : (f : Formed) (was : Formings) → Grows was (forming f was)
forming_grows (FormsValue t) was (FormsValue u) h = has_with t u was.terms h
forming_grows (FormsValue t) was (FormsCall c) h = (has_with t (ResultTerm 0 c.call) was.terms h.0, h.1)
forming_grows (FormsCall d) was (FormsValue u) h = has_with (ResultTerm 0 d.call) u was.terms h
forming_grows (FormsCall d) was (FormsCall c) h = (has_with (ResultTerm 0 d.call) (ResultTerm 0 c.call) was.terms h.0, called_with d c.call was.calls h.1)

pub forming_has : (f : Formed) (was : Formings) → Has (forming f was) f
forming_has (FormsValue t) was = has_own t was.terms
forming_has (FormsCall c) was = (has_own (ResultTerm 0 c.call) was.terms, called_own c was.calls)

pub forming_same : (f : Formed) (was : Formings) → Has was f → forming f was ≡ was
forming_same (FormsValue t) was h = λ i. record { terms = term_same t was.terms h i; calls = was.calls }
forming_same (FormsCall c) was h = λ i. record { terms = term_same (ResultTerm 0 c.call) was.terms h.0 i; calls = called_same c was.calls h.1 i }

pub after_grows : (fs : List Formed) (was : Formings) → Grows was (after fs was)
after_grows [] was f h = h
after_grows (g ∷ fs) was f h = after_grows fs (forming g was) f (forming_grows g was f h)

pub after_has : (fs : List Formed) (was : Formings) → HasAll (after fs was) fs
after_has [] was = tt
after_has (f ∷ fs) was = (after_grows fs (forming f was) f (forming_has f was), after_has fs (forming f was))

pub after_same : (fs : List Formed) (was : Formings) → HasAll was fs → after fs was ≡ was
after_same [] was h = refl
after_same (f ∷ fs) was h = ap (after fs) (forming_same f was h.0) ∙ after_same fs was h.1

pub after_append : (fs gs : List Formed) (was : Formings) → after (fs ++ gs) was ≡ after gs (after fs was)
after_append [] gs was = refl
after_append (f ∷ fs) gs was = after_append fs gs (forming f was)

pub all_append : (was : Formings) (fs gs : List Formed) → HasAll was fs → HasAll was gs → HasAll was (fs ++ gs)
all_append was [] gs h k = k
all_append was (f ∷ fs) gs h k = (h.0, all_append was fs gs h.1 k)

pub all_front : (was : Formings) (fs gs : List Formed) → HasAll was (fs ++ gs) → HasAll was fs
all_front was [] gs h = tt
all_front was (f ∷ fs) gs h = (h.0, all_front was fs gs h.1)

-- what comes next in a list whose front is there may be formed before it
pub next_same : (was : Formings) (front next behind : List Formed) → HasAll was front → after (front ++ (next ++ behind)) (after next was) ≡ after (front ++ (next ++ behind)) was
next_same was front next behind h =
    let now = after next was in
    after_append front (next ++ behind) now
    ∙ ap (after (next ++ behind)) (after_same front now (all_grow was now (after_grows next was) front h))
    ∙ after_append next behind now
    ∙ ap (after behind) (after_same next now (after_has next was))
    ∙ sym (after_append next behind was)
    ∙ sym (ap (after (next ++ behind)) (after_same front was h))
    ∙ sym (after_append front (next ++ behind) was)

-- so may any part of it, where what it makes of both is the same
pub part_same : (was now : Formings) → Grows was now → (front part behind : List Formed) → HasAll was front → after part now ≡ after part was → after (front ++ (part ++ behind)) now ≡ after (front ++ (part ++ behind)) was
part_same was now g front part behind h e =
    after_append front (part ++ behind) now
    ∙ ap (after (part ++ behind)) (after_same front now (all_grow was now g front h))
    ∙ after_append part behind now
    ∙ ap (after behind) e
    ∙ sym (after_append part behind was)
    ∙ sym (ap (after (part ++ behind)) (after_same front was h))
    ∙ sym (after_append front (part ++ behind) was)

-- to form all again changes nothing
pub after_again : (fs : List Formed) (was : Formings) → after fs (after fs was) ≡ after fs was
after_again fs was = after_same fs (after fs was) (after_has fs was)

pub after_front : (fs more : List Formed) (was : Formings) → after (fs ++ more) (after fs was) ≡ after (fs ++ more) was
after_front fs more was = next_same was [] fs more tt
