-- The root that is found is the greatest whole number whose square is at most the number.
use Rattle.std.proofs.Common.{◌≡◌, ℕ, zero, suc, ◌+◌, ◌*◌, ◌<◌, ◌≤◌, ℤ, pos, negsuc, true, false, refl, arith, inl, inr}
use Rattle.std.specs.Prelude.{nat_le}
use Rattle.std.specs.Int.{int_div_euclid}
use Rattle.std.proofs.lemmas.Bool.{cases_lt}
use Rattle.std.proofs.lemmas.Bool.Decides.{nat_tests}
use Rattle.std.proofs.Math.Nat.{mul-le-mul_left, mul-le-mul_right}
use Rattle.dx_stats.specs.Statistics.{floor, root, greatest_root}

pub floor_is : (z : ℤ) (n : ℕ) → int_div_euclid z (pos n) ≡ floor z n
floor_is (pos a) n = refl
floor_is (negsuc a) n = refl

square_le : (a b : ℕ) → a ≤ b → a * a ≤ b * b
square_le a b h =
    let one = mul-le-mul_left a h in
    let two = mul-le-mul_right b h in
    omega (arith, one, two)

yes : (a b : ℕ) → a ≤ b → nat_le a b ≡ true
yes a b h = grind (arith, nat_tests)

no : (a b : ℕ) → b < a → nat_le a b ≡ false
no a b h = grind (arith, nat_tests)

below_root : (n m r : ℕ) → r ≤ m → r * r ≤ n → n < (r + 1) * (r + 1) → greatest_root n m ≡ r
unfolding greatest_root
below_root n zero r h low high = omega arith
below_root n (suc m) r h low high =
    elim (cases_lt m r) [
      | inl over ↦
          let same : r ≡ suc m = omega arith in
          let fits : suc m * suc m ≤ n = rw same at low in
          rw (yes (suc m * suc m) n fits) (omega arith)
      | inr under ↦
          let more = square_le (r + 1) (suc m) (omega arith) in
          rw (no (suc m * suc m) n (omega (arith, more))) (below_root n m r under low high)
    ]

pub root_is : (n r : ℕ) → r * r ≤ n → n < (r + 1) * (r + 1) → root n ≡ r
unfolding root
root_is n zero low high = below_root n n zero (omega arith) low high
root_is n (suc r) low high =
    let one : 1 ≤ suc r = omega arith in
    let self = mul-le-mul_left (suc r) one in
    below_root n n (suc r) (omega (arith, self)) low high
