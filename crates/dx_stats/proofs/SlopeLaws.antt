-- A slope tells the bin of a distance: the product with it, divided by the scale, is that with the bins, divided by the span.
use Rattle.std.proofs.Common.{◌≡◌, ℕ, ◌+◌, ◌*◌, ◌/◌, ◌<◌, ◌≤◌, arith, inl, inr, mul-le-mul_right, div-mul-le_self}
use Rattle.std.proofs.lemmas.Bool.{cases_lt}
use Rattle.std.proofs.Math.Nat.{mul-le-mul_left, div-lt_iff_lt-mul, div-le_self}
use Rattle.dx_stats.specs.declared.bins.Bins.{Bins}
use Rattle.dx_stats.specs.Bins.{IsSlope, span, scale}

-- a quotient, and the next number
below_next : (x s : ℕ) → 0 < s → x < (x / s + 1) * s
below_next x s some = (div-lt_iff_lt-mul {x = x} {y = x / s + 1} some).0 (omega arith)

pub slope_few : (n s : ℕ) → n ≤ 65536 → n * scale / s ≤ 4835703278458516698824704
slope_few n s few = let less = div-le_self (n * scale) s in omega (arith, less)

pub slope_is : (b : Bins) (m : ℕ) → b.count ≤ 65536 → m ≡ b.count * scale / span b + 1 → IsSlope b m
slope_is b m few e =
    let next = below_next (b.count * scale) (span b) (omega arith) in
    let whole = div-mul-le_self (b.count * scale) (span b) in
    let less = slope_few b.count (span b) few in
    record {
      low = rw e (omega (arith, next));
      high = rw e (omega (arith, whole));
      few = omega (arith, e, less);
    }

-- of a distance d below the span s, with n bins and the slope m, the quotient is no less than the bin q
no_less : (d n s m q : ℕ) → 0 < s → n * 73786976294838206464 ≤ m * s → q * s ≤ d * n → d * m < q * 73786976294838206464 → ⊥
no_less d n s m q some low whole h =
    let row = mul-le-mul_left d low in
    let rows : (d * m + 1) * s ≤ q * 73786976294838206464 * s = mul-le-mul_right s (omega arith) in
    omega (arith, row, rows, whole)

-- and no more
no_more : (d n s m q : ℕ) → d < s → s ≤ 8589934592 → m * s ≤ n * 73786976294838206464 + s → d * n < (q + 1) * s → (q + 1) * 73786976294838206464 ≤ d * m → ⊥
no_more d n s m q near few high next h =
    let row = mul-le-mul_left d high in
    let rows = mul-le-mul_right s h in
    let square = mul-le-mul_left d few in
    omega (arith, row, rows, square, next)

quotient_by : (x q : ℕ) → (x < q * 73786976294838206464 → ⊥) → ((q + 1) * 73786976294838206464 ≤ x → ⊥) → x / 73786976294838206464 ≡ q
quotient_by x q less more =
    let some : 0 < 73786976294838206464 = omega arith in
    elim (cases_lt (x / 73786976294838206464) q) [
      | inl lt ↦ absurd (less ((div-lt_iff_lt-mul {x = x} {y = q} some).0 lt))
      | inr ge ↦ elim (cases_lt x ((q + 1) * 73786976294838206464)) [
        | inl lt ↦
            let up : x / 73786976294838206464 < q + 1 = (div-lt_iff_lt-mul {x = x} {y = q + 1} some).1 lt in
            omega (arith, up)
        | inr over ↦ absurd (more (omega arith))
      ]
    ]

pub scaled_bin : (b : Bins) (d m : ℕ) → d < span b → span b ≤ 8589934592 → IsSlope b m → d * m / scale ≡ d * b.count / span b
scaled_bin b d m near few slope =
    let q = d * b.count / span b in
    let whole = div-mul-le_self (d * b.count) (span b) in
    let next = below_next (d * b.count) (span b) (omega arith) in
    quotient_by (d * m) q (no_less d b.count (span b) m q (omega arith) slope.low whole) (no_more d b.count (span b) m q near few slope.high next)

pub product_wide : (d m : ℕ) → d ≤ 8589934592 → m ≤ 4835703278458516698824705 → d * m ≤ 41538374868278621036837332748238848
product_wide d m h few =
    let row = mul-le-mul_right m h in
    omega (arith, row)
