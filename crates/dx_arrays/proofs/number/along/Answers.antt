use Rattle.std.proofs.Common.{◌≡◌, ℕ, ◌-◌, ◌<◌, ◌≤◌, ◌^◌, ℤ, pos, negsuc, ◌+ℤ◌, ◌*ℤ◌, nat_abs, ◌∙◌, arith, FitsSigned, w64, to_z, of_z}
use mir.Syntax.{w128}
use Rattle.std.specs.Int.Signed.{nat_abs-le}
use Rattle.std.proofs.lemmas.Int.{ints, to_z-of_z, unsigned_abs-mul}
use Rattle.std.proofs.Math.Nat.{mul-le-mul_left}
use Rattle.dx_arrays.proofs.number.along.Goals as goal

-- how far an item is from the origin
distance : (i : ℕ) (d : ℤ) → i < 2 ^ 64 → FitsSigned w64 d → nat_abs (pos i *ℤ d) ≤ 2 ^ 127 - 2 ^ 63
distance i d h f =
    let e = unsigned_abs-mul (pos i) d in
    let small : nat_abs d ≤ 2 ^ 63 = nat_abs-le d f.sfits in
    rw e (omega (arith, mul-le-mul_left i small))

fits : (o z w s : ℤ) → w ≡ o → s ≡ z → FitsSigned w64 o → nat_abs z ≤ 2 ^ 127 - 2 ^ 63 → FitsSigned w128 (to_z w128 (of_z w128 w) +ℤ to_z w128 (of_z w128 s))
fits o (pos n) w s p q f h = rw (p, q) (omega (arith, ints, f))
fits o (negsuc n) w s p q f h = rw (p, q) (omega (arith, ints, f))

is : (o z w s : ℤ) → w ≡ o → s ≡ z → FitsSigned w64 o → nat_abs z ≤ 2 ^ 127 - 2 ^ 63 → to_z w128 (of_z w128 (to_z w128 (of_z w128 w) +ℤ to_z w128 (of_z w128 s))) ≡ o +ℤ z
is o (pos n) w s p q f h = rw (p, q) (omega (arith, ints, f))
is o (negsuc n) w s p q f h = rw (p, q) (omega (arith, ints, f))

pub overflow_add-result : goal.overflow_add-result
overflow_add-result c = fits c.args.origin (pos c.args.index *ℤ c.args.delta) c.widened.result c.scaled.result (c.widened.ensures ∙ to_z-of_z w64 c.args.origin c.ranges.origin) (rw (to_z-of_z w64 c.args.delta c.ranges.delta) at c.scaled.ensures) c.ranges.origin (distance c.args.index c.args.delta (omega arith) c.ranges.delta)

pub returns : goal.returns
returns c = is c.args.origin (pos c.args.index *ℤ c.args.delta) c.widened.result c.scaled.result (c.widened.ensures ∙ to_z-of_z w64 c.args.origin c.ranges.origin) (rw (to_z-of_z w64 c.args.delta c.ranges.delta) at c.scaled.ensures) c.ranges.origin (distance c.args.index c.args.delta (omega arith) c.ranges.delta)
