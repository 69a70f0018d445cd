-- Values near enough to 0, of which an operator makes one.
use Rattle.std.proofs.Common.{◌≡◌, ℕ, ◌+◌, ◌*◌, ◌≤◌, ℤ, pos, negsuc, ◌+ℤ◌, ◌-ℤ◌, ◌*ℤ◌, ◌≤ℤ◌, Bool, true, false, refl, arith}
use Rattle.std.specs.Prelude.{unsigned_abs, nat_lt, IsOk, Ok, Err, if◌then◌else◌}
use Rattle.std.proofs.lemmas.Int.{ints, unsigned_abs-mul}
use Rattle.std.proofs.Math.Nat.{mul-le-mul}
use Rattle.dx_expr.specs.declared.fault.ItemFault.TheVariants.{Overflow}
use Rattle.dx_expr.specs.Value.{checked, is_int}

pub near_ok : (z : ℤ) → unsigned_abs z ≤ 2147483647 → IsOk (checked z)
near_ok (pos n) h =
    let below : nat_lt n 2147483648 ≡ true = grind arith in
    rw below refl
near_ok (negsuc n) h =
    let below : nat_lt n 2147483648 ≡ true = grind arith in
    rw below refl

abs_plus : (a b : ℤ) → unsigned_abs (a +ℤ b) ≤ unsigned_abs a + unsigned_abs b
abs_plus (pos a) (pos b) = omega (arith, ints)
abs_plus (pos a) (negsuc b) = omega (arith, ints)
abs_plus (negsuc a) (pos b) = omega (arith, ints)
abs_plus (negsuc a) (negsuc b) = omega (arith, ints)

abs_minus : (a b : ℤ) → unsigned_abs (a -ℤ b) ≤ unsigned_abs a + unsigned_abs b
abs_minus (pos a) (pos b) = omega (arith, ints)
abs_minus (pos a) (negsuc b) = omega (arith, ints)
abs_minus (negsuc a) (pos b) = omega (arith, ints)
abs_minus (negsuc a) (negsuc b) = omega (arith, ints)

pub sum_near : (a b : ℤ) (l r : ℕ) → unsigned_abs a ≤ l → unsigned_abs b ≤ r → l + r ≤ 2147483647 → IsOk (checked (a +ℤ b))
sum_near a b l r near far few = near_ok (a +ℤ b) (omega (arith, abs_plus a b, near, far, few))

pub difference_near : (a b : ℤ) (l r : ℕ) → unsigned_abs a ≤ l → unsigned_abs b ≤ r → l + r ≤ 2147483647 → IsOk (checked (a -ℤ b))
difference_near a b l r near far few = near_ok (a -ℤ b) (omega (arith, abs_minus a b, near, far, few))

pub product_near : (a b : ℤ) (l r : ℕ) → unsigned_abs a ≤ l → unsigned_abs b ≤ r → l * r ≤ 2147483647 → IsOk (checked (a *ℤ b))
product_near a b l r near far few = near_ok (a *ℤ b) (omega (arith, unsigned_abs-mul a b, mul-le-mul near far, few))

-- ---- of what it makes a value

ok_test : (b : Bool) (z : ℤ) → IsOk (if b then Ok z else Err Overflow) → b ≡ true
ok_test true z h = refl
ok_test false z h = absurd cc

pub ok_int : (z : ℤ) → IsOk (checked z) → is_int z ≡ true
ok_int z h = ok_test (is_int z) z h

pub ok_is : (z : ℤ) → IsOk (checked z) → checked z ≡ Ok z
ok_is z h = rw (ok_int z h) refl

-- it lies in the int range
pub ok_low : (z : ℤ) → IsOk (checked z) → negsuc 2147483647 ≤ℤ z
ok_low (pos n) h = omega (arith, ints)
ok_low (negsuc n) h = let e = ok_int (negsuc n) h in grind (arith, ints)

pub ok_high : (z : ℤ) → IsOk (checked z) → z ≤ℤ pos 2147483647
ok_high (pos n) h = let e = ok_int (pos n) h in grind (arith, ints)
ok_high (negsuc n) h = omega (arith, ints)

pub product_few : (l r : ℕ) → l ≤ 4294967295 → r ≤ 4294967295 → l * r ≤ 18446744065119617025
product_few l r left right = mul-le-mul left right
