-- Terms that are added leave what earlier tags name.
use Rattle.std.proofs.Common.{◌≡◌, ℕ, suc, ◌+◌, ◌<◌, ◌≤◌, List, [], ◌∷◌, ◌++◌, length, Some, refl, sym, ap, ◌∙◌, subst, ◌⊎◌, ⊎_elim, arith, append_assoc, append-nil, length-append}
use Rattle.std.specs.Prelude.{slice_get}
use Rattle.std.proofs.lemmas.Option.{slice_get_within}
use Rattle.dx_tags.specs.declared.term.Term.{Term}
use Rattle.dx_tags.specs.declared.term.Term.TheVariants.{Constant, Held, Call, File}
use Rattle.dx_tags.specs.declared.term.ValueTag.{ValueTag}
use Rattle.dx_tags.specs.Closed.{Head, head_at, value_terms, head_of, heads_after, heads_of, IsResultOf, AreEarlier, IsFormed, AreFormed}
use Rattle.std.specs.Prelude.{Result, Ok, Err, OnOk, OnErr, IfOk}
use Rattle.dx_tags.proofs.ClosedTerms.{head_at-heads_after, head_unfolds, same_head, same_values}
use Rattle.dx_tags.specs.Closed.{Fits, IsHeldBelow, HeldBelow, NoneHeld, HasMore, GoesOn, AllFormed, NamesHead}

heads_after-append : (hs : List Head) (ts us : List Term) → heads_after hs (ts ++ us) ≡ heads_after (heads_after hs ts) us
heads_after-append hs [] us = refl
heads_after-append hs (t ∷ ts) us = heads_after-append (hs ++ head_of hs t ∷ []) ts us

length-heads_after : (hs : List Head) (ts : List Term) → length (heads_after hs ts) ≡ length hs + length ts
length-heads_after hs [] = omega arith
length-heads_after hs (t ∷ ts) =
    omega (arith, length-heads_after (hs ++ head_of hs t ∷ []) ts, length-append hs (head_of hs t ∷ []))

-- what a tag names stays
pub heads_stay : (old new : List Term) → HasMore old new → (n : ℕ) → n < length old → head_at (heads_of new) n ≡ head_at (heads_of old) n
heads_stay old new g n h =
    ap (λ ts. head_at (heads_of ts) n) g.1 ∙ ap (λ hs. head_at hs n) (heads_after-append [] old g.0)
    ∙ head_at-heads_after (heads_of old) g.0 n (omega (arith, length-heads_after [] old))

pub heads_grow : (old new : List Term) → GoesOn old new → (n : ℕ) → n < length old → head_at (heads_of new) n ≡ head_at (heads_of old) n
heads_grow old new g n h = heads_stay old new (g.0, g.1) n h

-- held values of both lists
held_append : (n : ℕ) (ts us : List Term) → HeldBelow n ts → HeldBelow n us → HeldBelow n (ts ++ us)
held_append n [] us h k = k
held_append n (t ∷ ts) us h k = (h.0, held_append n ts us h.1 k)

none_below : (n : ℕ) (t : Term) → IsHeldBelow 0 t → IsHeldBelow n t
none_below n (Constant c) h = tt
none_below n (Held k) h = absurd (omega (arith, h))
none_below n (Call m ts) h = tt
none_below n (File b) h = tt

all_below : (n : ℕ) (ts : List Term) → NoneHeld ts → HeldBelow n ts
all_below n [] h = tt
all_below n (t ∷ ts) h = (none_below n t h.0, all_below n ts h.1)

-- no held value comes
pub held_grows : (n : ℕ) (old new : List Term) → GoesOn old new → HeldBelow n old → HeldBelow n new
held_grows n old new g h = subst (HeldBelow n) (sym g.1) (held_append n old g.0 h (all_below n g.0 g.2))

pub goes_on_same : (old : List Term) → GoesOn old old
goes_on_same old = ([], sym (append-nil old), tt)

pub goes_on_then : (a b c : List Term) → GoesOn a b → GoesOn b c → GoesOn a c
goes_on_then a b c g h = (g.0 ++ h.0, h.1 ∙ ap (λ ts. ts ++ h.0) g.1 ∙ append_assoc a g.0 h.0, held_append 0 g.0 h.0 g.2 h.2)

longer_by : (old new : List Term) → HasMore old new → length old ≤ length new
longer_by old new g = omega (arith, ap length g.1, length-append old g.0)

pub longer : (old new : List Term) → GoesOn old new → length old ≤ length new
longer old new g = longer_by old new (g.0, g.1)

pub fits_stay : (old new : List Term) → HasMore old new → (t : ValueTag) → Fits old t → Fits new t
fits_stay old new g t n =
    let le = longer_by old new g in
    let lt = n.within in
    record { within = omega arith; result = subst (λ h. IsResultOf h t.result) (sym (heads_stay old new g t.tag n.within)) n.result }

earlier_grow : (hs is : List Head) (m n : ℕ) → m ≤ n → ((k : ℕ) → k < m → head_at is k ≡ head_at hs k) → (ts : List ValueTag) → AreEarlier hs m ts → AreEarlier is n ts
earlier_grow hs is m n le h [] e = tt
earlier_grow hs is m n le h (t ∷ ts) e =
    ((let lt = e.0.0 in omega arith, subst (λ x. IsResultOf x t.result) (sym (h t.tag e.0.0)) e.0.1), earlier_grow hs is m n le h ts e.1)

pub earlier_on : (old new : List Term) → GoesOn old new → (ts : List ValueTag) → AreEarlier (heads_of old) (length old) ts → AreEarlier (heads_of new) (length new) ts
earlier_on old new g ts e = earlier_grow (heads_of old) (heads_of new) (length old) (length new) (longer old new g) (heads_grow old new g) ts e

pub values_on : (old new : List Term) → GoesOn old new → (ts : List ValueTag) → AreEarlier (heads_of old) (length old) ts → value_terms (heads_of new) ts ≡ value_terms (heads_of old) ts
values_on old new g ts e = same_values (heads_of new) (heads_of old) (heads_of old) (length old) (heads_grow old new g) ts e

formed_grow : (hs is : List Head) (n : ℕ) → ((k : ℕ) → k < n → head_at is k ≡ head_at hs k) → (t : Term) → IsFormed hs n t → IsFormed is n t
formed_grow hs is n h (Constant c) f = f
formed_grow hs is n h (Held k) f = tt
formed_grow hs is n h (File b) f = tt
formed_grow hs is n h (Call m ts) f = earlier_grow hs is n n (omega arith) h ts f

all_grow : (hs is : List Head) (k : ℕ) (ts : List Term) → ((m : ℕ) → m < k + length ts → head_at is m ≡ head_at hs m) → AreFormed hs k ts → AreFormed is k ts
all_grow hs is k [] h f = tt
all_grow hs is k (t ∷ ts) h f = (formed_grow hs is k (λ m lt. h m (omega arith)) t f.0, all_grow hs is (suc k) ts (λ m lt. h m (omega arith)) f.1)

all_snoc : (hs : List Head) (k : ℕ) (ts : List Term) (t : Term) → AreFormed hs k ts → IsFormed hs (k + length ts) t → AreFormed hs k (ts ++ t ∷ [])
all_snoc hs k [] t f g = (subst (λ n. IsFormed hs n t) (omega arith) g, tt)
all_snoc hs k (u ∷ ts) t f g = (f.0, all_snoc hs (suc k) ts t f.1 (subst (λ n. IsFormed hs n t) (omega arith) g))

-- one more term
pub formed_more : (old : List Term) (t : Term) → AllFormed old → IsFormed (heads_of old) (length old) t → AllFormed (old ++ t ∷ [])
formed_more old t f g =
    let new = old ++ t ∷ [] in
    let on : HasMore old new = (t ∷ [], refl) in
    let grow = heads_stay old new on in
    let zero_in : 0 + length old ≡ length old = omega arith in
    all_snoc (heads_of new) 0 old t (all_grow (heads_of old) (heads_of new) 0 old (λ m lt. grow m (omega arith)) f) (subst (λ n. IsFormed (heads_of new) n t) (sym zero_in) (formed_grow (heads_of old) (heads_of new) (length old) grow t g))

kept_has_more : (old new : List Term) (t : Term) → (new ≡ old) ⊎ (new ≡ old ++ t ∷ []) → HasMore old new
kept_has_more old new t k = ⊎_elim (λ e. ([], e ∙ sym (append-nil old))) (λ e. (t ∷ [], e)) k

kept_goes_on : (old new : List Term) (t : Term) → NoneHeld (t ∷ []) → (new ≡ old) ⊎ (new ≡ old ++ t ∷ []) → GoesOn old new
kept_goes_on old new t none k = ⊎_elim (λ e. ([], e ∙ sym (append-nil old), tt)) (λ e. (t ∷ [], e, none)) k

pub kept_formed : (old new : List Term) (t : Term) → AllFormed old → IsFormed (heads_of old) (length old) t → (new ≡ old) ⊎ (new ≡ old ++ t ∷ []) → AllFormed new
kept_formed old new t f g k = ⊎_elim (λ e. subst AllFormed (sym e) f) (λ e. subst AllFormed (sym e) (formed_more old t f g)) k

named_head : (old new : List Term) (t : Term) (tag : ℕ) → AllFormed new → HasMore old new → IsFormed (heads_of old) (length old) t → slice_get new tag ≡ Some t → NamesHead new tag (head_of (heads_of old) t)
named_head old new t tag f g i e = record {
  within = slice_get_within new tag t e;
  head = head_unfolds new f tag t e ∙ same_head (heads_of new) (heads_of old) (heads_of old) (length old) (heads_stay old new g) t i;
}

-- by what interning answers
pub interned_formed : {E : Type 0} (r : Result ℕ E) (old new : List Term) (t : Term) → AllFormed old → IsFormed (heads_of old) (length old) t → OnOk r ((new ≡ old) ⊎ (new ≡ old ++ t ∷ [])) → OnErr r (new ≡ old) → AllFormed new
interned_formed (Ok tag) old new t f g k e = kept_formed old new t f g k
interned_formed (Err e) old new t f g k same = subst AllFormed (sym same) f

pub interned_goes_on : {E : Type 0} (r : Result ℕ E) (old new : List Term) (t : Term) → NoneHeld (t ∷ []) → OnOk r ((new ≡ old) ⊎ (new ≡ old ++ t ∷ [])) → OnOk r (GoesOn old new)
interned_goes_on (Ok tag) old new t none k = kept_goes_on old new t none k
interned_goes_on (Err e) old new t none k = tt

pub interned_named : {E : Type 0} (r : Result ℕ E) (old new : List Term) (t : Term) → AllFormed old → IsFormed (heads_of old) (length old) t → OnOk r ((new ≡ old) ⊎ (new ≡ old ++ t ∷ [])) → IfOk r (λ tag. slice_get new tag ≡ Some t) → IfOk r (λ tag. NamesHead new tag (head_of (heads_of old) t))
interned_named (Ok tag) old new t f g k n = named_head old new t tag (kept_formed old new t f g k) (kept_has_more old new t k) g n
interned_named (Err e) old new t f g k n = tt

-- one more tag
pub earlier_push : (terms : List Term) (ts : List ValueTag) (t : ValueTag) → AreEarlier (heads_of terms) (length terms) ts → Fits terms t → AreEarlier (heads_of terms) (length terms) (ts ++ t ∷ [])
earlier_push terms [] t e f = ((f.within, f.result), tt)
earlier_push terms (u ∷ ts) t e f = (e.0, earlier_push terms ts t e.1 f)
