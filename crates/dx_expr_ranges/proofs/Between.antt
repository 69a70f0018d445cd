-- Single values that lie from one to another.
use Rattle.std.proofs.Common.{◌≡◌, ℕ, zero, suc, ◌/◌, ◌<◌, ◌≤◌, min, ℤ, pos, negsuc, ◌+ℤ◌, ◌-ℤ◌, ◌*ℤ◌, ◌≤ℤ◌, neg_ℤ, Bool, true, false, ◌||◌, refl, ap, subst, arith}
use Rattle.std.specs.Prelude.{unsigned_abs, cond, int_le, int_lt, int_div, int_rem, nat_lt, Ok, Err, if◌then◌else◌}
use Rattle.std.specs.Int.{int_min, int_max, int_signum}
use Rattle.std.proofs.lemmas.Bool.{ltb-true}
use Rattle.std.proofs.lemmas.Int.{ints, clamps}
use Rattle.std.proofs.Math.Nat.{mul-le-mul_right, div-le_self, mod-le}
use Rattle.dx_expr.specs.declared.fault.ItemFault.TheVariants.{Overflow}
use Rattle.dx_expr.specs.Value.{Outcome, checked, is_int, is_zero, truth, quotient, remainder}
use Rattle.dx_expr.proofs.Evaluating.{is_zero-not}
use Rattle.dx_expr_ranges.specs.declared.range.Range.{Range}
use Rattle.dx_expr_ranges.specs.Ranges.{LiesFrom, IsIn, has_zero, farthest, farthest_below, lowest_product, highest_product}

-- there is a value, which lies from one to another
abbrev pub Lies : ℤ → ℤ → Bool → Outcome ℤ → Type 0
Lies low high may (Ok v) = LiesFrom low high may v
Lies low high may (Err fault) = ⊥

-- ---- ints

int_low : (z : ℤ) → is_int z ≡ true → negsuc 2147483647 ≤ℤ z
int_low (pos n) h = omega (arith, ints)
int_low (negsuc n) h = let k = ltb-true n 2147483648 h in omega (arith, ints, k)

int_high : (z : ℤ) → is_int z ≡ true → z ≤ℤ pos 2147483647
int_high (pos n) h = let k = ltb-true n 2147483648 h in omega (arith, ints, k)
int_high (negsuc n) h = omega (arith, ints)

int_of : (z : ℤ) → negsuc 2147483647 ≤ℤ z → z ≤ℤ pos 2147483647 → is_int z ≡ true
int_of (pos n) l h =
    let k : n < 2147483648 = omega (arith, ints, h) in
    let below : nat_lt n 2147483648 ≡ true = grind arith in
    below
int_of (negsuc n) l h =
    let k : n < 2147483648 = omega (arith, ints, l) in
    let below : nat_lt n 2147483648 ≡ true = grind arith in
    below

int_between : (low v high : ℤ) → is_int low ≡ true → is_int high ≡ true → low ≤ℤ v → v ≤ℤ high → is_int v ≡ true
int_between low v high p q l h =
    let a = int_low low p in
    let b = int_high high q in
    int_of v (omega (arith, ints, a, l)) (omega (arith, ints, b, h))

-- a value that lies from one int to another is made
pub checked_lies : (low v high : ℤ) (may : Bool) → is_int low ≡ true → is_int high ≡ true → LiesFrom low high may v → Lies low high may (checked v)
checked_lies low v high may p q h = rw (int_between low v high p q h.low h.high) h

-- and a value that is made is that
pub made_is : (z w : ℤ) → checked z ≡ Ok w → z ≡ w
made_is z w h = by (is_int z) refl h
  where
    by : (t : Bool) → is_int z ≡ t → (if t then Ok z else Err Overflow) ≡ Ok w → z ≡ w
    by true is h = cc
    by false is h = absurd cc

-- ---- zero

-- of another value the test says no
not_zero : (v : ℤ) → (v ≡ pos 0 → ⊥) → is_zero v ≡ true → ⊥
not_zero v other h = let k = is_zero-not v other in cc

pub zero_is : (v : ℤ) → is_zero v ≡ true → v ≡ pos 0
zero_is (pos zero) h = refl
zero_is (pos (suc n)) h = absurd (not_zero (pos (suc n)) (λ e. cc) h)
zero_is (negsuc n) h = absurd (not_zero (negsuc n) (λ e. cc) h)

le_test : (a b : ℤ) → a ≤ℤ b → int_le a b ≡ true
le_test a b h = by (int_le a b) refl
  where
    by : (t : Bool) → int_le a b ≡ t → int_le a b ≡ true
    by true is = is
    by false is = absurd (omega (arith, ints, h, is))

pub can_be_zero : (a : Range) (v : ℤ) → IsIn a v → is_zero v ≡ true → has_zero a ≡ true
can_be_zero a v h is =
    let e = zero_is v is in
    let l : a.low ≤ℤ pos 0 = subst (λ z. a.low ≤ℤ z) e h.low in
    let g : pos 0 ≤ℤ a.high = subst (λ z. z ≤ℤ a.high) e h.high in
    rw (h.zero is, le_test a.low (pos 0) l, le_test (pos 0) a.high g) refl

pub cannot_be_zero : (a : Range) (v : ℤ) → IsIn a v → has_zero a ≡ false → is_zero v ≡ false
cannot_be_zero a v h none = by (is_zero v) refl
  where
    by : (t : Bool) → is_zero v ≡ t → is_zero v ≡ false
    by true is = absurd (let k = can_be_zero a v h is in cc)
    by false is = is

pub one_of : (p q : Bool) → p ≡ true → (p || q) ≡ true
one_of true q h = refl
one_of false q h = absurd cc

pub other_of : (p q : Bool) → q ≡ true → (p || q) ≡ true
other_of true q h = refl
other_of false q h = h

-- ---- operators of one operand

neg_zero : (v : ℤ) → is_zero (neg_ℤ v) ≡ true → is_zero v ≡ true
neg_zero (pos zero) h = refl
neg_zero (pos (suc n)) h = absurd (not_zero (negsuc n) (λ e. cc) h)
neg_zero (negsuc n) h = absurd (not_zero (pos (suc n)) (λ e. cc) h)

pub negated : (a : Range) (v : ℤ) → is_int (neg_ℤ a.high) ≡ true → is_int (neg_ℤ a.low) ≡ true → IsIn a v → Lies (neg_ℤ a.high) (neg_ℤ a.low) a.zero (checked (neg_ℤ v))
negated a v p q h =
    let l = h.low in
    let g = h.high in
    checked_lies (neg_ℤ a.high) (neg_ℤ v) (neg_ℤ a.low) a.zero p q (record { low = omega (arith, ints, g); high = omega (arith, ints, l); zero = λ is. h.zero (neg_zero v is) })

abs_zero : (v : ℤ) → is_zero (pos (unsigned_abs v)) ≡ true → is_zero v ≡ true
abs_zero (pos n) h = h
abs_zero (negsuc n) h = absurd (not_zero (pos (suc n)) (λ e. cc) h)

abs_least : (low v : ℤ) → low ≤ℤ v → int_max (pos 0) low ≤ℤ pos (unsigned_abs v)
abs_least low (pos n) h = omega (arith, ints, clamps, h)
abs_least low (negsuc n) h = omega (arith, ints, clamps, h)

pub abs_most : (a : Range) (v : ℤ) → IsIn a v → pos (unsigned_abs v) ≤ℤ farthest a
abs_most a (pos n) h = let g = h.high in omega (arith, ints, clamps, g)
abs_most a (negsuc n) h = let l = h.low in omega (arith, ints, clamps, l)

pub absolute : (a : Range) (v : ℤ) → is_int (int_max (pos 0) a.low) ≡ true → is_int (farthest a) ≡ true → IsIn a v → Lies (int_max (pos 0) a.low) (farthest a) (has_zero a) (checked (pos (unsigned_abs v)))
absolute a v p q h =
    checked_lies (int_max (pos 0) a.low) (pos (unsigned_abs v)) (farthest a) (has_zero a) p q
    (record { low = abs_least a.low v h.low; high = abs_most a v h; zero = λ is. can_be_zero a v h (abs_zero v is) })

sign_zero : (v : ℤ) → is_zero (int_signum v) ≡ true → is_zero v ≡ true
sign_zero (pos zero) h = refl
sign_zero (pos (suc n)) h = absurd (not_zero (int_signum (pos (suc n))) (λ e. let k : min (suc n) 1 ≡ 0 = ap unsigned_abs e in omega (arith, k)) h)
sign_zero (negsuc n) h = absurd (not_zero (int_signum (negsuc n)) (λ e. cc) h)

sign_least : (v : ℤ) → negsuc 0 ≤ℤ int_signum v
sign_least (pos zero) = omega (arith, ints)
sign_least (pos (suc n)) = omega (arith, ints)
sign_least (negsuc n) = omega (arith, ints)

sign_most : (v : ℤ) → int_signum v ≤ℤ pos 1
sign_most (pos zero) = omega (arith, ints)
sign_most (pos (suc n)) = omega (arith, ints)
sign_most (negsuc n) = omega (arith, ints)

pub signed : (a : Range) (v : ℤ) → IsIn a v → LiesFrom (negsuc 0) (pos 1) (has_zero a) (int_signum v)
signed a v h = record { low = sign_least v; high = sign_most v; zero = λ is. can_be_zero a v h (sign_zero v is) }

pub truth_lies : (t : Bool) → LiesFrom (pos 0) (pos 1) true (truth t)
truth_lies true = record { low = omega (arith, ints); high = omega (arith, ints); zero = λ is. refl }
truth_lies false = record { low = omega (arith, ints); high = omega (arith, ints); zero = λ is. refl }

-- ---- sums, differences and products

pub summed : (a b : Range) (v w : ℤ) → is_int (a.low +ℤ b.low) ≡ true → is_int (a.high +ℤ b.high) ≡ true → IsIn a v → IsIn b w → Lies (a.low +ℤ b.low) (a.high +ℤ b.high) true (checked (v +ℤ w))
summed a b v w p q h k =
    let l = h.low in let g = h.high in let m = k.low in let n = k.high in
    checked_lies (a.low +ℤ b.low) (v +ℤ w) (a.high +ℤ b.high) true p q (record { low = omega (arith, ints, l, m); high = omega (arith, ints, g, n); zero = λ is. refl })

pub lessened : (a b : Range) (v w : ℤ) → is_int (a.low -ℤ b.high) ≡ true → is_int (a.high -ℤ b.low) ≡ true → IsIn a v → IsIn b w → Lies (a.low -ℤ b.high) (a.high -ℤ b.low) true (checked (v -ℤ w))
lessened a b v w p q h k =
    let l = h.low in let g = h.high in let m = k.low in let n = k.high in
    checked_lies (a.low -ℤ b.high) (v -ℤ w) (a.high -ℤ b.low) true p q (record { low = omega (arith, ints, l, n); high = omega (arith, ints, g, m); zero = λ is. refl })

-- multiplied by the same, values stay in order or are turned round
product_up : (a b : ℤ) (k : ℕ) → a ≤ℤ b → (a *ℤ pos k) ≤ℤ (b *ℤ pos k)
product_up (pos m) (pos n) k h =
    let less : m ≤ n = omega (arith, ints, h) in
    let more = mul-le-mul_right k less in
    omega (arith, ints, more)
product_up (pos m) (negsuc n) k h = absurd (omega (arith, ints, h))
product_up (negsuc m) (pos n) k h = omega (arith, ints)
product_up (negsuc m) (negsuc n) k h =
    let less : suc n ≤ suc m = omega (arith, ints, h) in
    let more = mul-le-mul_right k less in
    omega (arith, ints, more)

product_down : (a b : ℤ) (k : ℕ) → a ≤ℤ b → (b *ℤ negsuc k) ≤ℤ (a *ℤ negsuc k)
product_down (pos m) (pos n) k h =
    let less : m ≤ n = omega (arith, ints, h) in
    let more = mul-le-mul_right (suc k) less in
    omega (arith, ints, more)
product_down (pos m) (negsuc n) k h = absurd (omega (arith, ints, h))
product_down (negsuc m) (pos n) k h = omega (arith, ints)
product_down (negsuc m) (negsuc n) k h =
    let less : suc n ≤ suc m = omega (arith, ints, h) in
    let more = mul-le-mul_right (suc k) less in
    omega (arith, ints, more)

turned : (a b : ℤ) → a *ℤ b ≡ b *ℤ a
turned a b = omega (arith, ints)

-- the product with a value in a range lies between those with its ends
least_product : (low v high c : ℤ) → low ≤ℤ v → v ≤ℤ high → int_min (low *ℤ c) (high *ℤ c) ≤ℤ (v *ℤ c)
least_product low v high (pos k) l h = let p = product_up low v k l in omega (arith, ints, clamps, p)
least_product low v high (negsuc k) l h = let p = product_down v high k h in omega (arith, ints, clamps, p)

most_product : (low v high c : ℤ) → low ≤ℤ v → v ≤ℤ high → (v *ℤ c) ≤ℤ int_max (low *ℤ c) (high *ℤ c)
most_product low v high (pos k) l h = let p = product_up v high k h in omega (arith, ints, clamps, p)
most_product low v high (negsuc k) l h = let p = product_down low v k l in omega (arith, ints, clamps, p)

min_min : (x a b c d e f : ℤ) → int_min a b ≤ℤ x → int_min c d ≤ℤ a → int_min e f ≤ℤ b → int_min (int_min c d) (int_min e f) ≤ℤ x
min_min x a b c d e f p q r = by (int_min c d) (int_min e f) q r
  where
    by : (y z : ℤ) → y ≤ℤ a → z ≤ℤ b → int_min y z ≤ℤ x
    by y z q r = omega (arith, ints, clamps, p, q, r)

max_max : (x a b c d e f : ℤ) → x ≤ℤ int_max a b → a ≤ℤ int_max c d → b ≤ℤ int_max e f → x ≤ℤ int_max (int_max c d) (int_max e f)
max_max x a b c d e f p q r = by (int_max c d) (int_max e f) q r
  where
    by : (y z : ℤ) → a ≤ℤ y → b ≤ℤ z → x ≤ℤ int_max y z
    by y z q r = omega (arith, ints, clamps, p, q, r)

-- one value times the ends of the range of another
least_by_ends : (low v w high : ℤ) → low ≤ℤ w → w ≤ℤ high → int_min (v *ℤ low) (v *ℤ high) ≤ℤ (v *ℤ w)
least_by_ends low v w high l h = rw (turned v low, turned v high, turned v w) (least_product low w high v l h)

most_by_ends : (low v w high : ℤ) → low ≤ℤ w → w ≤ℤ high → (v *ℤ w) ≤ℤ int_max (v *ℤ low) (v *ℤ high)
most_by_ends low v w high l h = rw (turned v low, turned v high, turned v w) (most_product low w high v l h)

product_lies : (a b : Range) (v w : ℤ) → IsIn a v → IsIn b w → LiesFrom (lowest_product a b) (highest_product a b) true (v *ℤ w)
unfolding lowest_product highest_product
product_lies a b v w h k =
    record {
      low = min_min (v *ℤ w) (a.low *ℤ w) (a.high *ℤ w) (a.low *ℤ b.low) (a.low *ℤ b.high) (a.high *ℤ b.low) (a.high *ℤ b.high)
          (least_product a.low v a.high w h.low h.high) (least_by_ends b.low a.low w b.high k.low k.high) (least_by_ends b.low a.high w b.high k.low k.high);
      high = max_max (v *ℤ w) (a.low *ℤ w) (a.high *ℤ w) (a.low *ℤ b.low) (a.low *ℤ b.high) (a.high *ℤ b.low) (a.high *ℤ b.high)
          (most_product a.low v a.high w h.low h.high) (most_by_ends b.low a.low w b.high k.low k.high) (most_by_ends b.low a.high w b.high k.low k.high);
      zero = λ is. refl;
    }

pub multiplied : (a b : Range) (v w : ℤ) → is_int (lowest_product a b) ≡ true → is_int (highest_product a b) ≡ true → IsIn a v → IsIn b w → Lies (lowest_product a b) (highest_product a b) true (checked (v *ℤ w))
multiplied a b v w p q h k = checked_lies (lowest_product a b) (v *ℤ w) (highest_product a b) true p q (product_lies a b v w h k)

-- ---- quotients and remainders

abs_neg : (a : ℤ) → unsigned_abs (neg_ℤ a) ≡ unsigned_abs a
abs_neg (pos zero) = refl
abs_neg (pos (suc n)) = refl
abs_neg (negsuc n) = refl

abs_div : (a b : ℤ) → unsigned_abs (int_div a b) ≤ unsigned_abs a
abs_div (pos a) (pos b) = div-le_self a b
abs_div (pos a) (negsuc b) = omega (arith, abs_neg (pos (a / suc b)), div-le_self a (suc b))
abs_div (negsuc a) (pos b) = omega (arith, abs_neg (pos (suc a / b)), div-le_self (suc a) b)
abs_div (negsuc a) (negsuc b) = div-le_self (suc a) (suc b)

-- what lies no further from zero than a value of a range
near_lies : (a : Range) (q v : ℤ) → unsigned_abs q ≤ unsigned_abs v → IsIn a v → LiesFrom (farthest_below a) (farthest a) true q
near_lies a q v near h = record { low = least q v near h.low h.high; high = most q v near h.low h.high; zero = λ is. refl }
  where
    least : (q v : ℤ) → unsigned_abs q ≤ unsigned_abs v → a.low ≤ℤ v → v ≤ℤ a.high → farthest_below a ≤ℤ q
    least (pos m) (pos n) near l g = omega (arith, ints, clamps, near, l, g)
    least (pos m) (negsuc n) near l g = omega (arith, ints, clamps, near, l, g)
    least (negsuc m) (pos n) near l g = omega (arith, ints, clamps, near, l, g)
    least (negsuc m) (negsuc n) near l g = omega (arith, ints, clamps, near, l, g)

    most : (q v : ℤ) → unsigned_abs q ≤ unsigned_abs v → a.low ≤ℤ v → v ≤ℤ a.high → q ≤ℤ farthest a
    most (pos m) (pos n) near l g = omega (arith, ints, clamps, near, l, g)
    most (pos m) (negsuc n) near l g = omega (arith, ints, clamps, near, l, g)
    most (negsuc m) (pos n) near l g = omega (arith, ints, clamps, near, l, g)
    most (negsuc m) (negsuc n) near l g = omega (arith, ints, clamps, near, l, g)

pub divided : (a b : Range) (v w : ℤ) → is_int (farthest_below a) ≡ true → is_int (farthest a) ≡ true → has_zero b ≡ false → IsIn a v → IsIn b w → Lies (farthest_below a) (farthest a) true (quotient v w)
divided a b v w p q none h k =
    rw (cannot_be_zero b w k none) (checked_lies (farthest_below a) (int_div v w) (farthest a) true p q (near_lies a (int_div v w) v (abs_div v w) h))

rem_lies : (low v w high : ℤ) → low ≤ℤ v → v ≤ℤ high → LiesFrom (int_min (pos 0) low) (int_max (pos 0) high) true (int_rem v w)
rem_lies low (pos n) w high l h =
    let m = mod-le n (unsigned_abs w) in
    record { low = omega (arith, ints, clamps); high = omega (arith, ints, clamps, m, h); zero = λ is. refl }
rem_lies low (negsuc n) w high l h =
    let m = mod-le (suc n) (unsigned_abs w) in
    record { low = omega (arith, ints, clamps, m, l); high = omega (arith, ints, clamps, m); zero = λ is. refl }

pub left_over : (a b : Range) (v w : ℤ) → is_int (int_min (pos 0) a.low) ≡ true → is_int (int_max (pos 0) a.high) ≡ true → has_zero b ≡ false → IsIn a v → IsIn b w → Lies (int_min (pos 0) a.low) (int_max (pos 0) a.high) true (remainder v w)
left_over a b v w p q none h k =
    rw (cannot_be_zero b w k none) (checked_lies (int_min (pos 0) a.low) (int_rem v w) (int_max (pos 0) a.high) true p q (rem_lies a.low v w a.high h.low h.high))

-- ---- the lesser and the greater

pub wider : (a b : Range) (v : ℤ) → IsIn a v → LiesFrom (int_min a.low b.low) (int_max a.high b.high) (has_zero a || has_zero b) v
wider a b v h =
    let l = h.low in let g = h.high in
    record { low = omega (arith, ints, clamps, l); high = omega (arith, ints, clamps, g); zero = λ is. one_of (has_zero a) (has_zero b) (can_be_zero a v h is) }

pub wider_too : (a b : Range) (v : ℤ) → IsIn b v → LiesFrom (int_min a.low b.low) (int_max a.high b.high) (has_zero a || has_zero b) v
wider_too a b v h =
    let l = h.low in let g = h.high in
    record { low = omega (arith, ints, clamps, l); high = omega (arith, ints, clamps, g); zero = λ is. other_of (has_zero a) (has_zero b) (can_be_zero b v h is) }

picked_zero : (t : Bool) (a b : Range) (v w : ℤ) → IsIn a v → IsIn b w → is_zero (cond t v w) ≡ true → (has_zero a || has_zero b) ≡ true
picked_zero true a b v w h k is = one_of (has_zero a) (has_zero b) (can_be_zero a v h is)
picked_zero false a b v w h k is = other_of (has_zero a) (has_zero b) (can_be_zero b w k is)

pub lesser : (a b : Range) (v w : ℤ) → IsIn a v → IsIn b w → LiesFrom (int_min a.low b.low) (int_min a.high b.high) (has_zero a || has_zero b) (int_min v w)
lesser a b v w h k =
    let l = h.low in let g = h.high in let m = k.low in let n = k.high in
    record {
      low = omega (arith, ints, clamps, l, m);
      high = omega (arith, ints, clamps, g, n);
      zero = λ is. by (int_lt w v) is;
    }
  where
    by : (t : Bool) → is_zero (cond t w v) ≡ true → (has_zero a || has_zero b) ≡ true
    by true is = other_of (has_zero a) (has_zero b) (can_be_zero b w k is)
    by false is = one_of (has_zero a) (has_zero b) (can_be_zero a v h is)

pub greater : (a b : Range) (v w : ℤ) → IsIn a v → IsIn b w → LiesFrom (int_max a.low b.low) (int_max a.high b.high) (has_zero a || has_zero b) (int_max v w)
greater a b v w h k =
    let l = h.low in let g = h.high in let m = k.low in let n = k.high in
    record {
      low = omega (arith, ints, clamps, l, m);
      high = omega (arith, ints, clamps, g, n);
      zero = λ is. picked_zero (int_lt w v) a b v w h k is;
    }

-- ---- sums of products

-- a sum of so many values lies between the sums of as many of the least and of the greatest
pub record SumLies (n : ℕ) (low high sum : ℤ) : Type 0 where
  pub below : (pos n *ℤ int_min (pos 0) low) ≤ℤ sum
  pub above : sum ≤ℤ (pos n *ℤ int_max (pos 0) high)

times_next : (n : ℕ) (c : ℤ) → pos (suc n) *ℤ c ≡ pos n *ℤ c +ℤ c
times_next n (pos k) = omega (arith, ints)
times_next n (negsuc k) = omega (arith, ints)

pub sum_next : (n : ℕ) (low high sum v : ℤ) → low ≤ℤ v → v ≤ℤ high → SumLies n low high sum → SumLies (suc n) low high (sum +ℤ v)
sum_next n low high sum v l h s =
    let p = times_next n (int_min (pos 0) low) in
    let q = times_next n (int_max (pos 0) high) in
    let b = s.below in
    let a = s.above in
    record { below = omega (arith, ints, clamps, p, l, b); above = omega (arith, ints, clamps, q, h, a) }

pub sum_none : (low high : ℤ) → SumLies 0 low high (pos 0)
sum_none low high = record { below = omega (arith, ints); above = omega (arith, ints) }

times_fewer : (m n : ℕ) (c : ℤ) → m ≤ n → c ≤ℤ pos 0 → (pos n *ℤ c) ≤ℤ (pos m *ℤ c)
times_fewer m n (pos zero) h k = omega (arith, ints)
times_fewer m n (pos (suc c)) h k = absurd (omega (arith, ints, k))
times_fewer m n (negsuc c) h k = let p = mul-le-mul_right (suc c) h in omega (arith, ints, p)

times_more : (m n : ℕ) (c : ℤ) → m ≤ n → pos 0 ≤ℤ c → (pos m *ℤ c) ≤ℤ (pos n *ℤ c)
times_more m n (pos c) h k = let p = mul-le-mul_right c h in omega (arith, ints, p)
times_more m n (negsuc c) h k = absurd (omega (arith, ints, k))

-- and so between the sums of more of them
pub sum_within : (m n : ℕ) (low high sum : ℤ) → m ≤ n → SumLies m low high sum → LiesFrom (pos n *ℤ int_min (pos 0) low) (pos n *ℤ int_max (pos 0) high) true sum
sum_within m n low high sum h s =
    let p = times_fewer m n (int_min (pos 0) low) h (omega (arith, ints, clamps)) in
    let q = times_more m n (int_max (pos 0) high) h (omega (arith, ints, clamps)) in
    let b = s.below in
    let a = s.above in
    record { low = omega (arith, ints, p, b); high = omega (arith, ints, q, a); zero = λ is. refl }
