-- Lists of slots.
use Rattle.std.proofs.Common.{◌≡◌, ℕ, zero, suc, ◌<◌, List, [], ◌∷◌, ◌++◌, length, Bool, true, false, Some, refl, sym, ap, ◌∙◌, subst, arith, ◌⊎◌, inl, inr, true≢false}
use Rattle.std.specs.Prelude.{slice_get, slice_set, ◌==◌}
use Rattle.std.specs.Cmp.{unsigned_Decides}
use Rattle.dx_cache.specs.Chain.{IsIn, IsOut, AreApart}

-- by what a test says
pub cases : {P : Type 0} (b : Bool) → (b ≡ true → P) → (b ≡ false → P) → P
cases true t f = t refl
cases false t f = f refl

pub same_or_not : {P : Type 0} (i j : ℕ) → (i ≡ j → P) → (¬ (i ≡ j) → P) → P
same_or_not i j s n =
    cases (i == j)
    (λ q. s ((unsigned_Decides i j).0 q))
    (λ q. n (λ e. true≢false (sym ((unsigned_Decides i j).1 e) ∙ q)))

-- What a write leaves.

pub get_set_same : {X : Type 0} (xs : List X) (i : ℕ) (v : X) → i < length xs → slice_get (slice_set xs i v) i ≡ Some v
get_set_same [] i v w = absurd (omega (arith, w))
get_set_same (x ∷ xs) zero v w = refl
get_set_same (x ∷ xs) (suc i) v w = get_set_same xs i v (omega (arith, w))

pub get_set_other : {X : Type 0} (xs : List X) (i j : ℕ) (v : X) → ¬ (j ≡ i) → slice_get (slice_set xs i v) j ≡ slice_get xs j
get_set_other [] i j v n = refl
get_set_other (x ∷ xs) zero zero v n = absurd (n refl)
get_set_other (x ∷ xs) zero (suc j) v n = refl
get_set_other (x ∷ xs) (suc i) zero v n = refl
get_set_other (x ∷ xs) (suc i) (suc j) v n = get_set_other xs i j v (λ e. n (ap suc e))

pub length_set : {X : Type 0} (xs : List X) (i : ℕ) (v : X) → length (slice_set xs i v) ≡ length xs
length_set [] i v = refl
length_set (x ∷ xs) zero v = refl
length_set (x ∷ xs) (suc i) v = ap suc (length_set xs i v)

pub within : {X : Type 0} (xs : List X) (i : ℕ) (x : X) → slice_get xs i ≡ Some x → i < length xs
within [] i x g = cc
within (y ∷ xs) zero x g = omega arith
within (y ∷ xs) (suc i) x g = let w = within xs i x g in omega (arith, w)

-- In and out.

pub out_not_in : (i : ℕ) (xs : List ℕ) → IsOut i xs → IsIn i xs → ⊥
out_not_in i [] o n = n
out_not_in i (x ∷ xs) o (inl e) = o.0 e
out_not_in i (x ∷ xs) o (inr n) = out_not_in i xs o.1 n

pub not_in_out : (i : ℕ) (xs : List ℕ) → (IsIn i xs → ⊥) → IsOut i xs
not_in_out i [] n = tt
not_in_out i (x ∷ xs) n = (λ e. n (inl e), not_in_out i xs (λ m. n (inr m)))

pub in_left : (i : ℕ) (xs ys : List ℕ) → IsIn i xs → IsIn i (xs ++ ys)
in_left i [] ys n = absurd n
in_left i (x ∷ xs) ys (inl e) = inl e
in_left i (x ∷ xs) ys (inr n) = inr (in_left i xs ys n)

pub in_right : (i : ℕ) (xs ys : List ℕ) → IsIn i ys → IsIn i (xs ++ ys)
in_right i [] ys n = n
in_right i (x ∷ xs) ys n = inr (in_right i xs ys n)

pub in_either : (i : ℕ) (xs ys : List ℕ) → IsIn i (xs ++ ys) → IsIn i xs ⊎ IsIn i ys
in_either i [] ys n = inr n
in_either i (x ∷ xs) ys (inl e) = inl (inl e)
in_either i (x ∷ xs) ys (inr n) = more (in_either i xs ys n)
  where
    more : IsIn i xs ⊎ IsIn i ys → IsIn i (x ∷ xs) ⊎ IsIn i ys
    more (inl m) = inl (inr m)
    more (inr m) = inr m

pub out_left : (i : ℕ) (xs ys : List ℕ) → IsOut i (xs ++ ys) → IsOut i xs
out_left i [] ys o = tt
out_left i (x ∷ xs) ys o = (o.0, out_left i xs ys o.1)

pub out_right : (i : ℕ) (xs ys : List ℕ) → IsOut i (xs ++ ys) → IsOut i ys
out_right i [] ys o = o
out_right i (x ∷ xs) ys o = out_right i xs ys o.1

pub out_both : (i : ℕ) (xs ys : List ℕ) → IsOut i xs → IsOut i ys → IsOut i (xs ++ ys)
out_both i [] ys o p = p
out_both i (x ∷ xs) ys o p = (o.0, out_both i xs ys o.1 p)

-- Apart.

pub apart_left : (xs ys : List ℕ) → AreApart (xs ++ ys) → AreApart xs
apart_left [] ys a = tt
apart_left (x ∷ xs) ys a = (out_left x xs ys a.0, apart_left xs ys a.1)

pub apart_right : (xs ys : List ℕ) → AreApart (xs ++ ys) → AreApart ys
apart_right [] ys a = a
apart_right (x ∷ xs) ys a = apart_right xs ys a.1

-- one of the first is none of the others
pub apart_cross : (xs ys : List ℕ) (i : ℕ) → AreApart (xs ++ ys) → IsIn i xs → IsIn i ys → ⊥
apart_cross [] ys i a n m = n
apart_cross (x ∷ xs) ys i a (inl e) m = out_not_in x ys (out_right x xs ys a.0) (subst (λ k. IsIn k ys) e m)
apart_cross (x ∷ xs) ys i a (inr n) m = apart_cross xs ys i a.1 n m

pub apart_both : (xs ys : List ℕ) → AreApart xs → AreApart ys → ((i : ℕ) → IsIn i xs → IsIn i ys → ⊥) → AreApart (xs ++ ys)
apart_both [] ys a b n = b
apart_both (x ∷ xs) ys a b n = (out_both x xs ys a.0 (not_in_out x ys (n x (inl refl))), apart_both xs ys a.1 b (λ i p q. n i (inr p) q))

-- the slot in the middle is none of the others
pub apart_middle : (xs ys : List ℕ) (i : ℕ) → AreApart (xs ++ i ∷ ys) → IsOut i (xs ++ ys)
apart_middle xs ys i a = out_both i xs ys (not_in_out i xs (λ n. apart_cross xs (i ∷ ys) i a n (inl refl))) (apart_right xs (i ∷ ys) a).0

pub in_others : (xs ys : List ℕ) (i j : ℕ) → IsIn j (xs ++ ys) → IsIn j (xs ++ i ∷ ys)
in_others xs ys i j n = by (in_either j xs ys n)
  where
    by : IsIn j xs ⊎ IsIn j ys → IsIn j (xs ++ i ∷ ys)
    by (inl m) = in_left j xs (i ∷ ys) m
    by (inr m) = in_right j xs (i ∷ ys) (inr m)

pub others_in : (xs ys : List ℕ) (i j : ℕ) → IsIn j (xs ++ i ∷ ys) → ¬ (j ≡ i) → IsIn j (xs ++ ys)
others_in xs ys i j n d = by (in_either j xs (i ∷ ys) n)
  where
    by : IsIn j xs ⊎ IsIn j (i ∷ ys) → IsIn j (xs ++ ys)
    by (inl m) = in_left j xs ys m
    by (inr (inl e)) = absurd (d e)
    by (inr (inr m)) = in_right j xs ys m

pub apart_others : (xs ys : List ℕ) (i : ℕ) → AreApart (xs ++ i ∷ ys) → AreApart (xs ++ ys)
apart_others xs ys i a =
    apart_both xs ys (apart_left xs (i ∷ ys) a) (apart_right xs (i ∷ ys) a).1 (λ j p q. apart_cross xs (i ∷ ys) j a p (inr q))

-- the list on both sides of one of its slots
pub record IsSplit (i : ℕ) (all : List ℕ) : Type 0 where
  pub left : List ℕ
  pub right : List ℕ
  pub whole : all ≡ left ++ i ∷ right

pub split_at : (i : ℕ) (xs : List ℕ) → IsIn i xs → IsSplit i xs
split_at i [] n = absurd n
split_at i (x ∷ xs) (inl e) = record { left = []; right = xs; whole = ap (λ y. y ∷ xs) (sym e) }
split_at i (x ∷ xs) (inr n) =
    let s = split_at i xs n in
    record { left = x ∷ s.left; right = s.right; whole = ap (λ ys. x ∷ ys) s.whole }
