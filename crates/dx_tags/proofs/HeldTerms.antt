-- The terms of held values, each at the place of its number.
use Rattle.std.proofs.Common.{◌≡◌, ℕ, zero, suc, ◌+◌, ◌<◌, List, [], ◌∷◌, ◌++◌, length, Bool, true, false, Some, refl, sym, ap, ◌∙◌, subst, arith, length-append, true≢false}
use Rattle.std.specs.Prelude.{slice_get, ◌==◌}
use Rattle.std.specs.Cmp.{unsigned_Decides}
use Rattle.std.proofs.lemmas.Option.{slice_get_within}
use Rattle.dx_tags.specs.declared.term.Term.{Term}
use Rattle.dx_tags.specs.declared.term.Term.TheVariants.{Held as HeldBy}
use Rattle.dx_tags.specs.Closed.{Head, AreFormed}
use Rattle.dx_tags.specs.HeldTerms.{held_terms}

pub held_length : (n : ℕ) → length (held_terms n) ≡ n
held_length zero = refl
held_length (suc n) = omega (arith, held_length n, length-append (held_terms n) (HeldBy n ∷ []))

get_left : (xs ys : List Term) (i : ℕ) → i < length xs → slice_get (xs ++ ys) i ≡ slice_get xs i
get_left [] ys i h = absurd (omega arith)
get_left (x ∷ xs) ys zero h = refl
get_left (x ∷ xs) ys (suc i) h = get_left xs ys i (omega arith)

get_end : (xs : List Term) (y : Term) → slice_get (xs ++ y ∷ []) (length xs) ≡ Some y
get_end [] y = refl
get_end (x ∷ xs) y = get_end xs y

cases : {P : Type 0} (b : Bool) → (b ≡ true → P) → (b ≡ false → P) → P
cases true t f = t refl
cases false t f = f refl

pub held_at : (n k : ℕ) → k < n → slice_get (held_terms n) k ≡ Some (HeldBy k)
held_at zero k h = absurd (omega arith)
held_at (suc n) k h = cases (k == n)
    (λ q. let same : k ≡ n = (unsigned_Decides k n).0 q in
    let len = held_length n in
    subst (λ j. slice_get (held_terms n ++ HeldBy n ∷ []) j ≡ Some (HeldBy j)) (sym same) (subst (λ j. slice_get (held_terms n ++ HeldBy n ∷ []) j ≡ Some (HeldBy n)) len (get_end (held_terms n) (HeldBy n))))
    (λ q. let ne : ¬ (k ≡ n) = λ e. true≢false (sym ((unsigned_Decides k n).1 e) ∙ q) in
    let lt : k < n = omega arith in
    get_left (held_terms n) (HeldBy n ∷ []) k (let len = held_length n in omega arith) ∙ held_at n k lt)

formed_snoc : (hs : List Head) (k m : ℕ) (xs : List Term) → AreFormed hs k xs → AreFormed hs k (xs ++ HeldBy m ∷ [])
formed_snoc hs k m [] f = (tt, tt)
formed_snoc hs k m (x ∷ xs) f = (f.0, formed_snoc hs (suc k) m xs f.1)

pub held_formed : (hs : List Head) (k n : ℕ) → AreFormed hs k (held_terms n)
held_formed hs k zero = tt
held_formed hs k (suc n) = formed_snoc hs k n (held_terms n) (held_formed hs k n)

pub held_is : (n i : ℕ) (t : Term) → slice_get (held_terms n) i ≡ Some t → (i < n) × (HeldBy i ≡ t)
held_is n i t e =
    let w = slice_get_within (held_terms n) i t e in
    let len = held_length n in
    let lt : i < n = omega arith in
    let at = sym (held_at n i lt) ∙ e in
    (lt, cc)

-- ---- other terms behind them

pub before_at : (n : ℕ) (ts : List Term) (k : ℕ) → k < n → slice_get (held_terms n ++ ts) k ≡ Some (HeldBy k)
before_at n ts k h =
    let len = held_length n in
    get_left (held_terms n) ts k (omega arith) ∙ held_at n k h

get_right : (xs ys : List Term) (i : ℕ) → slice_get (xs ++ ys) (length xs + i) ≡ slice_get ys i
get_right [] ys i = (let same : 0 + i ≡ i = omega arith in ap (slice_get ys) same)
get_right (x ∷ xs) ys i =
    let same : suc (length xs) + i ≡ suc (length xs + i) = omega arith in
    ap (slice_get (x ∷ xs ++ ys)) same ∙ get_right xs ys i

pub behind_at : (n : ℕ) (ts : List Term) (i : ℕ) → slice_get (held_terms n ++ ts) (n + i) ≡ slice_get ts i
behind_at n ts i = ap (λ k. slice_get (held_terms n ++ ts) (k + i)) (sym (held_length n)) ∙ get_right (held_terms n) ts i

pub behind_length : (n : ℕ) (ts : List Term) → length (held_terms n ++ ts) ≡ n + length ts
behind_length n ts = omega (arith, held_length n, length-append (held_terms n) ts)
