-- The number that is selected has the rank, and no other has it.
use Rattle.std.proofs.Common.{◌≡◌, ℕ, suc, ◌+◌, ◌-◌, ◌/◌, ◌<◌, ◌≤◌, ℤ, ◌≤ℤ◌, ◌<ℤ◌, List, [], ◌∷◌, ◌++◌, length, cond, Bool, true, false, ◌&&◌, refl, sym, ap, ◌∙◌, arith}
use Rattle.std.specs.Prelude.{int_lt, int_le, nat_le, nat_lt, Some, None, find, count_by}
use Rattle.std.specs.List.{All}
use Rattle.std.specs.List.Sorted.{IsPermutation, IsSplitAround}
use Rattle.std.specs.Ordering.{int_cmp, is_lt}
use Rattle.std.proofs.lemmas.Int.{ints, by_lt_z}
use Rattle.std.proofs.lemmas.Bool.{and_parts}
use Rattle.std.proofs.lemmas.Bool.Decides.{nat_tests}
use Rattle.std.proofs.lemmas.List.Sorted.{sum_by-IsPermutation}
use Rattle.std.proofs.lemmas.List.Sums.{count_by-le-length, sum_by-append, sum_by-cons, sum_by-le-sum_by}
use Rattle.dx_stats.specs.Bins.{has_rank, item_of_rank, middle_rank, middle}

-- ---- tests of numbers

abbrev one_if : Bool → ℕ
one_if b = cond b 1 0

count_cons : (p : ℤ → Bool) (v : ℤ) (vs : List ℤ) → count_by p (v ∷ vs) ≡ one_if (p v) + count_by p vs
count_cons p v vs = sum_by-cons (λ x. one_if (p x)) v vs

one_le : (a b : Bool) → (a ≡ true → b ≡ true) → one_if a ≤ one_if b
one_le false b h = omega arith
one_le true b h = rw (h refl) (omega arith)

-- a weaker test counts no fewer
count_le : (p q : ℤ → Bool) (vs : List ℤ) → ((v : ℤ) → p v ≡ true → q v ≡ true) → count_by p vs ≤ count_by q vs
count_le p q vs h = sum_by-le-sum_by (λ x. one_if (p x)) (λ x. one_if (q x)) vs (λ v. one_le (p v) (q v) (h v))

none_pass : (p : ℤ → Bool) (vs : List ℤ) → All (λ v. p v ≡ false) vs → count_by p vs ≡ 0
none_pass p [] h = refl
none_pass p (v ∷ vs) h =
    let here = ap one_if (h 0 v (omega arith)) in
    let rest = none_pass p vs (λ i d lt. h (suc i) d (omega arith)) in
    omega (arith, count_cons p v vs, here, rest)

all_pass : (p : ℤ → Bool) (vs : List ℤ) → All (λ v. p v ≡ true) vs → count_by p vs ≡ length vs
all_pass p [] h = refl
all_pass p (v ∷ vs) h =
    let here = ap one_if (h 0 v (omega arith)) in
    let rest = all_pass p vs (λ i d lt. h (suc i) d (omega arith)) in
    omega (arith, count_cons p v vs, here, rest)

-- ---- one number has the rank

le_of_lt : (a b w : ℤ) → a <ℤ b → int_le w a ≡ true → int_lt w b ≡ true
le_of_lt a b w h t = grind (arith, ints)

rank_parts : (r : ℕ) (vs : List ℤ) (v : ℤ) → has_rank r vs v ≡ true → (count_by (λ w. int_lt w v) vs ≤ r) × (r < count_by (λ w. int_le w v) vs)
rank_parts r vs v h =
    let parts = and_parts (nat_le (count_by (λ w. int_lt w v) vs) r) (nat_lt r (count_by (λ w. int_le w v) vs)) h in
    let low = parts.0 in
    let high = parts.1 in
    (grind (arith, nat_tests, low), grind (arith, nat_tests, high))

apart : (r : ℕ) (vs : List ℤ) (a b : ℤ) → has_rank r vs a ≡ true → has_rank r vs b ≡ true → a <ℤ b → ⊥
apart r vs a b p q h =
    let one = rank_parts r vs a p in
    let two = rank_parts r vs b q in
    let row = count_le (λ w. int_le w a) (λ w. int_lt w b) vs (λ w. le_of_lt a b w h) in
    omega (arith, one.1, two.0, row)

between_is : (a b : ℤ) → a ≤ℤ b → b ≤ℤ a → a ≡ b
between_is a b h k = omega (arith, ints)

pub one_rank : (r : ℕ) (vs : List ℤ) (a b : ℤ) → has_rank r vs a ≡ true → has_rank r vs b ≡ true → a ≡ b
one_rank r vs a b p q =
    by_lt_z a b (λ lt. absurd (apart r vs a b p q lt)) (λ le. by_lt_z b a (λ lt. absurd (apart r vs b a q p lt)) (λ ge. between_is a b ge le))

same_tests : (x v : ℤ) → (v ≡ x → ⊥) → int_lt v x ≡ int_le v x
same_tests x v h = by_lt_z v x (λ lt. grind (arith, ints)) (λ le. by_lt_z x v (λ lt. grind (arith, ints)) (λ ge. absurd (h (between_is v x ge le))))

-- what alone passes the test, and stands there, is found
pub found : (p : ℤ → Bool) (x : ℤ) (vs : List ℤ) → ((v : ℤ) → p v ≡ true → v ≡ x) → p x ≡ true → count_by (λ w. int_lt w x) vs < count_by (λ w. int_le w x) vs → find p vs ≡ Some x
found p x [] only at more = absurd (omega arith)
found p x (v ∷ vs) only at more =
    let low = count_cons (λ w. int_lt w x) v vs in
    let high = count_cons (λ w. int_le w x) v vs in
    let other : (p v ≡ false) → find p vs ≡ Some x = λ no.
    let differ : v ≡ x → ⊥ = λ e. absurd (cc (ap p e)) in
    let same = ap one_if (same_tests x v differ) in
    found p x vs only at (omega (arith, low, high, same, more)) in
    let here : (p v ≡ true) → v ≡ x = only v in
    elim (p v) as (λ b. ((b ≡ false) → find p vs ≡ Some x) → ((b ≡ true) → v ≡ x) → cond b (Some v) (find p vs) ≡ Some x) [
      | true ↦ λ f g. ap Some (g refl)
      | false ↦ λ f g. f refl
    ] other here

rank_true : (r a b : ℕ) → a ≤ r → r < b → (nat_le a r && nat_lt r b) ≡ true
rank_true r a b h k = grind (arith, nat_tests)

-- ---- the number that is selected

is_below : (a b : ℤ) → a <ℤ b → int_lt a b ≡ true
is_below a b h = grind (arith, ints)

lt_cmp : (a b : ℤ) → a <ℤ b → is_lt (int_cmp a b) ≡ true
lt_cmp a b h = rw (is_below a b h) refl

not_above : (m v : ℤ) → is_lt (int_cmp m v) ≡ false → int_le v m ≡ true
not_above m v h = by_lt_z m v (λ lt. absurd (cc (lt_cmp m v lt, h))) (λ le. grind (arith, ints))

not_below : (m v : ℤ) → is_lt (int_cmp v m) ≡ false → int_lt v m ≡ false
not_below m v h = by_lt_z v m (λ lt. absurd (cc (lt_cmp v m lt, h))) (λ le. grind (arith, ints))

self_lt : (m : ℤ) → int_lt m m ≡ false
self_lt m = grind (arith, ints)

self_le : (m : ℤ) → int_le m m ≡ true
self_le m = grind (arith, ints)

counted_parts : (p : ℤ → Bool) (vs front back : List ℤ) (m : ℤ) → IsPermutation vs (front ++ m ∷ back) → count_by p vs ≡ count_by p front + (one_if (p m) + count_by p back)
counted_parts p vs front back m perm =
    let f : ℤ → ℕ = λ v. one_if (p v) in
    sym (sum_by-IsPermutation f vs (front ++ m ∷ back) perm) ∙ sum_by-append f front (m ∷ back) ∙ ap (λ n. count_by p front + n) (count_cons p m back)

-- where so many aren't above a number that stands before the others, none of which are below it, the number has that rank
pub selected : (vs front back : List ℤ) (m : ℤ) (r : ℕ) → IsPermutation vs (front ++ m ∷ back) → length front ≡ r → IsSplitAround int_cmp front m back → item_of_rank r vs ≡ Some m
selected vs front back m r perm len split =
    let low = counted_parts (λ w. int_lt w m) vs front back m perm in
    let low_front = count_by-le-length (λ w. int_lt w m) front in
    let low_self = ap one_if (self_lt m) in
    let low_back = none_pass (λ w. int_lt w m) back (λ i d lt. not_below m _ (split.1 i d lt)) in
    let high = counted_parts (λ w. int_le w m) vs front back m perm in
    let high_front = all_pass (λ w. int_le w m) front (λ i d lt. not_above m _ (split.0 i d lt)) in
    let high_self = ap one_if (self_le m) in
    let below : count_by (λ w. int_lt w m) vs ≤ r = omega (arith, low, low_front, low_self, low_back, len) in
    let above : r < count_by (λ w. int_le w m) vs = omega (arith, high, high_front, high_self, len) in
    let at : has_rank r vs m ≡ true = rank_true r _ _ below above in
    found (has_rank r vs) m vs (λ v p. one_rank r vs v m p at) at (omega (arith, below, above))

-- ---- the number in the middle

pub middle_of_none : (vs : List ℤ) → length vs ≡ 0 → middle vs ≡ None
unfolding middle
middle_of_none [] h = refl
middle_of_none (v ∷ vs) h = absurd (omega arith)

pub middle_is : (vs front back : List ℤ) (m : ℤ) → IsPermutation vs (front ++ m ∷ back) → length front ≡ (length vs - 1) / 2 → IsSplitAround int_cmp front m back → middle vs ≡ Some m
unfolding middle
middle_is vs front back m perm len split = selected vs front back m (middle_rank (length vs)) perm len split
