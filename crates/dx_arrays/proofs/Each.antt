-- Tests over all numbers below a bound, and over all values of items.
use Rattle.std.proofs.Common.{◌≡◌, ℕ, zero, suc, ◌+◌, ◌-◌, ◌<◌, map, Bool, true, false, ◌&&◌, refl, sym, ap, ◌∙◌, subst, arith, zero-add, add-zero}
use Rattle.std.specs.List.{list_all, range_with_len}
use Rattle.std.proofs.lemmas.Bool.{and_parts}
use Rattle.std.specs.Cmp.Derive.{both_true}

pub bool_ext : (a b : Bool) → (a ≡ true → b ≡ true) → (b ≡ true → a ≡ true) → a ≡ b
bool_ext true b f g = sym (f refl)
bool_ext false true f g = sym (sym (g refl))
bool_ext false false f g = refl

each_from : (f : ℕ → Bool) (a n i : ℕ) → list_all f (range_with_len a n) ≡ true → i < n → f (a + i) ≡ true
each_from f a zero i h l = absurd (omega arith)
each_from f a (suc n) zero h l =
    let hs = and_parts (f a) (list_all f (range_with_len (a + 1) n)) h in
    rw add-zero hs.0
each_from f a (suc n) (suc i) h l =
    let hs = and_parts (f a) (list_all f (range_with_len (a + 1) n)) h in
    let e : a + 1 + i ≡ a + suc i = omega arith in
    subst (λ (k : ℕ). f k ≡ true) e (each_from f (a + 1) n i hs.1 (omega arith))

each_to : (f : ℕ → Bool) (a n : ℕ) → ((i : ℕ) → i < n → f (a + i) ≡ true) → list_all f (range_with_len a n) ≡ true
each_to f a zero h = refl
each_to f a (suc n) h =
    let first : f (a + 0) ≡ true = h 0 (omega arith) in
    both_true (rw add-zero at first) (each_to f (a + 1) n (λ i l. let e : a + suc i ≡ a + 1 + i = omega arith in subst (λ (k : ℕ). f k ≡ true) e (h (suc i) (omega arith))))

-- a test of all numbers below n says what it is of each
pub each-at : (f : ℕ → Bool) (n i : ℕ) → list_all f (range_with_len 0 n) ≡ true → i < n → f i ≡ true
each-at f n i h l = subst (λ (k : ℕ). f k ≡ true) (zero-add i) (each_from f 0 n i h l)

pub each-of : (f : ℕ → Bool) (n : ℕ) → ((i : ℕ) → i < n → f i ≡ true) → list_all f (range_with_len 0 n) ≡ true
each-of f n h = each_to f 0 n (λ i l. subst (λ (k : ℕ). f k ≡ true) (sym (zero-add i)) (h i l))

-- the numbers from i on are i and those behind it
pub each-step : (f : ℕ → Bool) (n i : ℕ) → i < n → list_all f (range_with_len i (n - i)) ≡ (f i && list_all f (range_with_len (i + 1) (n - (i + 1))))
each-step f n i h = let e : n - i ≡ suc (n - (i + 1)) = omega arith in rw e refl

all_mapped : {X : Type 0} (p : X → Bool) (f : ℕ → X) (a n : ℕ) → list_all p (map f (range_with_len a n)) ≡ list_all (λ i. p (f i)) (range_with_len a n)
all_mapped p f a zero = refl
all_mapped p f a (suc n) = ap (λ b. p (f a) && b) (all_mapped p f (a + 1) n)

-- a test of all values of m items of n values
pub values-at : {X : Type 0} (p : X → Bool) (f : ℕ → ℕ → X) (m n i j : ℕ) → list_all (list_all p) (map (λ k. map (f k) (range_with_len 0 n)) (range_with_len 0 m)) ≡ true → i < m → j < n → p (f i j) ≡ true
values-at p f m n i j h l k =
    let items : list_all (λ x. list_all p (map (f x) (range_with_len 0 n))) (range_with_len 0 m) ≡ true = sym (all_mapped (list_all p) (λ x. map (f x) (range_with_len 0 n)) 0 m) ∙ h in
    let one : list_all p (map (f i) (range_with_len 0 n)) ≡ true = each-at (λ x. list_all p (map (f x) (range_with_len 0 n))) m i items l in
    each-at (λ x. p (f i x)) n j (sym (all_mapped p (f i) 0 n) ∙ one) k

pub values-of : {X : Type 0} (p : X → Bool) (f : ℕ → ℕ → X) (m n : ℕ) → ((i j : ℕ) → i < m → j < n → p (f i j) ≡ true) → list_all (list_all p) (map (λ k. map (f k) (range_with_len 0 n)) (range_with_len 0 m)) ≡ true
values-of p f m n h =
    all_mapped (list_all p) (λ x. map (f x) (range_with_len 0 n)) 0 m ∙
    each-of (λ x. list_all p (map (f x) (range_with_len 0 n))) m (λ i l. all_mapped p (f i) 0 n ∙ each-of (λ x. p (f i x)) n (λ j k. h i j l k))

-- a test of the numbers from i on that fails at i, and one that holds there
pub each-fails : (f : ℕ → Bool) (n i : ℕ) → i < n → f i ≡ false → list_all f (range_with_len i (n - i)) ≡ false
each-fails f n i h e = each-step f n i h ∙ ap (λ b. b && list_all f (range_with_len (i + 1) (n - (i + 1)))) e

pub each-holds : (f : ℕ → Bool) (n i : ℕ) → i < n → f i ≡ true → list_all f (range_with_len (i + 1) (n - (i + 1))) ≡ list_all f (range_with_len i (n - i))
each-holds f n i h e = sym (each-step f n i h ∙ ap (λ b. b && list_all f (range_with_len (i + 1) (n - (i + 1)))) e)
