-- Terms that come behind those of held values.
use Rattle.std.proofs.Common.{◌≡◌, ℕ, zero, suc, ◌+◌, ◌-◌, ◌<◌, ◌≤◌, List, [], ◌∷◌, ◌++◌, length, Some, ◌⊎◌, inl, inr, ⊎_elim, sym, ap, ◌∙◌, subst, arith, length-append, append_assoc}
use Rattle.std.specs.Prelude.{slice_get, Result, Ok, Err, OnOk, OnErr, IfOk}
use Rattle.std.proofs.lemmas.Bool.{cases_lt}
use Rattle.dx_base.specs.Object.{Tree}
use Rattle.dx_tags.specs.declared.term.Term.{Term}
use Rattle.dx_tags.specs.declared.term.Term.TheVariants.{Constant, Held as HeldBy, Call, File}
use Rattle.dx_tags.specs.Closed.{Head, IsFormed, AreDistinct}
use Rattle.dx_tags.specs.HeldTerms.{held_terms}
use Rattle.dx_tags.specs.Made.{IsMade, IsLawfulTerm}
use Rattle.dx_tags.specs.NamedTerms.{IsOther, StandBehind}
use Rattle.dx_tags.proofs.HeldTerms.{before_at, behind_at}

-- a term that is formed is lawful
pub formed_lawful : (hs : List Head) (n : ℕ) (t : Term) → IsFormed hs n t → IsLawfulTerm t
formed_lawful hs n (Constant c) f = f
formed_lawful hs n (HeldBy k) f = tt
formed_lawful hs n (Call m ts) f = tt
formed_lawful hs n (File b) f = tt

-- ---- places behind

pub at_behind : (n : ℕ) (ts : List Term) (tag : ℕ) → n ≤ tag → slice_get (held_terms n ++ ts) tag ≡ slice_get ts (tag - n)
at_behind n ts tag h =
    let place : tag ≡ n + (tag - n) = omega arith in
    ap (slice_get (held_terms n ++ ts)) place ∙ behind_at n ts (tag - n)

pub made_behind : (n : ℕ) (ts : List Term) (tag : ℕ) (o : Tree) → n ≤ tag → IsMade ts (tag - n) o → IsMade (held_terms n ++ ts) tag o
made_behind n ts tag o h m = (m.0, at_behind n ts tag h ∙ m.1, m.2)

-- ---- one term more

at_end : (ts : List Term) (t : Term) (i : ℕ) (u : Term) → slice_get (ts ++ t ∷ []) i ≡ Some u → (slice_get ts i ≡ Some u) ⊎ (t ≡ u)
at_end [] t zero u e = inr cc
at_end [] t (suc i) u e = cc
at_end (x ∷ ts) t zero u e = inl e
at_end (x ∷ ts) t (suc i) u e = at_end ts t i u e

pub stand_none : (n : ℕ) → n < 18446744073709551616 → StandBehind n []
stand_none n h = record { numbered = omega arith; others = λ i t e. cc }

pub stand_more : (n : ℕ) (old new : List Term) (t : Term) → StandBehind n old → IsOther n t → length old < 18446744073709551615 - n → (new ≡ old) ⊎ (new ≡ old ++ t ∷ []) → StandBehind n new
stand_more n old new t s o h k = ⊎_elim
    (λ e. subst (StandBehind n) (sym e) s)
    (λ e. subst (StandBehind n) (sym e) (record {
      numbered = omega (arith, length-append old (t ∷ []));
      others = λ i u at. ⊎_elim (s.others i u) (λ same. subst (IsOther n) same o) (at_end old t i u at);
    }))
    k

pub length_more : (old new : List Term) (t : Term) → (new ≡ old) ⊎ (new ≡ old ++ t ∷ []) → length new ≤ length old + 1
length_more old new t k = ⊎_elim
    (λ e. omega (arith, ap length e))
    (λ e. omega (arith, ap length e, length-append old (t ∷ [])))
    k

pub kept_behind : (n : ℕ) (old new : List Term) (t : Term) → (new ≡ old) ⊎ (new ≡ old ++ t ∷ []) → (held_terms n ++ new ≡ held_terms n ++ old) ⊎ (held_terms n ++ new ≡ (held_terms n ++ old) ++ t ∷ [])
kept_behind n old new t k = ⊎_elim
    (λ e. inl (ap (λ ts. held_terms n ++ ts) e))
    (λ e. inr (ap (λ ts. held_terms n ++ ts) e ∙ sym (append_assoc (held_terms n) old (t ∷ []))))
    k

-- ---- one tag for each term

-- a held value is no other term
not_held : (n k : ℕ) (t : Term) → k < n → HeldBy k ≡ t → IsOther n t → ⊥
not_held n k t h same o =
    let le : n ≤ k = subst (IsOther n) (sym same) o in
    omega arith

pub held_alone : (n : ℕ) (ts : List Term) (k : ℕ) (t : Term) → StandBehind n ts → k < n → t ≡ HeldBy k → (other : ℕ) → slice_get (held_terms n ++ ts) other ≡ Some t → other ≡ k
held_alone n ts k t s h is other at = ⊎_elim
    (λ lt. let e = sym (before_at n ts other lt) ∙ at ∙ ap Some is in cc)
    (λ le. absurd (not_held n k t h (sym is) (s.others (other - n) t (sym (at_behind n ts other le) ∙ at))))
    (cases_lt other n)

pub formed_alone : (n : ℕ) (ts : List Term) (place : ℕ) (t : Term) → IsOther n t → ((other : ℕ) → slice_get ts other ≡ Some t → other ≡ place) → (other : ℕ) → slice_get (held_terms n ++ ts) other ≡ Some t → other ≡ n + place
formed_alone n ts place t o one other at = ⊎_elim
    (λ lt. let e = sym (before_at n ts other lt) ∙ at in
    let same : HeldBy other ≡ t = cc in
    absurd (not_held n other t lt same o))
    (λ le. let e = one (other - n) (sym (at_behind n ts other le) ∙ at) in omega arith)
    (cases_lt other n)

-- places of one term in a list with one term more, which has one place alone
same_place : (old new : List Term) (t u : Term) (tag i j : ℕ) → new ≡ old ++ t ∷ [] → AreDistinct old → ((other : ℕ) → slice_get new other ≡ Some t → other ≡ tag) → slice_get new i ≡ Some u → slice_get new j ≡ Some u → i ≡ j
same_place old new t u tag i j e d one a b =
    let last : t ≡ u → i ≡ j = λ same. one i (a ∙ ap Some (sym same)) ∙ sym (one j (b ∙ ap Some (sym same))) in
    ⊎_elim
    (λ x. ⊎_elim (λ y. d i j u x y) last (at_end old t j u (sym (ap (λ ts. slice_get ts j) e) ∙ b)))
    last
    (at_end old t i u (sym (ap (λ ts. slice_get ts i) e) ∙ a))

distinct_more : (old new : List Term) (t : Term) (tag : ℕ) → AreDistinct old → ((other : ℕ) → slice_get new other ≡ Some t → other ≡ tag) → (new ≡ old) ⊎ (new ≡ old ++ t ∷ []) → AreDistinct new
distinct_more old new t tag d one k = ⊎_elim
    (λ e. subst AreDistinct (sym e) d)
    (λ e i j u a b. same_place old new t u tag i j e d one a b)
    k

-- by what interning answers
pub interned_distinct : {E : Type 0} (r : Result ℕ E) (old new : List Term) (t : Term) → AreDistinct old → IfOk r (λ tag. (other : ℕ) → slice_get new other ≡ Some t → other ≡ tag) → OnOk r ((new ≡ old) ⊎ (new ≡ old ++ t ∷ [])) → OnErr r (new ≡ old) → AreDistinct new
interned_distinct (Ok tag) old new t d one k e = distinct_more old new t tag d one k
interned_distinct (Err e) old new t d one k same = subst AreDistinct (sym same) d
