-- How large distances and bins get, and lists of borders and counts.
use Rattle.std.proofs.Common.{◌≡◌, ℕ, suc, ◌+◌, ◌*◌, ◌/◌, ◌<◌, ◌≤◌, ℤ, ◌+ℤ◌, ◌-ℤ◌, List, [], ◌∷◌, ◌++◌, map, sym, ap, ◌∙◌, arith, to_z, of_z, w64}
use Rattle.std.specs.Prelude.{IsTrue, unsigned_abs}
use Rattle.std.specs.List.{range_with_len}
use Rattle.std.specs.Int.{div_ceil}
use Rattle.std.proofs.lemmas.Int.{ints}
use Rattle.std.proofs.lemmas.List.FromFn.{map-range_with_len_more}
use Rattle.std.proofs.Math.Nat.{mul-le-mul_right, div-lt_iff_lt-mul, div-le_self}
use Rattle.dx_stats.specs.declared.bins.Bins.{Bins}
use Rattle.dx_stats.specs.Bins.{AreBins, span, is_counted, border}

pub product_few : (d n : ℕ) → d ≤ 8589934592 → n ≤ 65536 → d * n ≤ 562949953421312
product_few d n h k =
    let one = mul-le-mul_right n h in
    omega (arith, one)

pub span_few : (b : Bins) → AreBins b → unsigned_abs (b.high -ℤ b.low) ≤ 8589934591
span_few b h = grind (arith, ints, h.order, h.low, h.high)

pub distance_few : (b : Bins) (v : ℤ) → AreBins b → IsTrue (is_counted b v) → unsigned_abs (v -ℤ b.low) < span b
distance_few b v h c = grind (arith, ints, h.order, h.low, h.high)

pub bin_below : (d n s : ℕ) → d < s → 0 < n → d * n / s < n
bin_below d n s h some =
    let more : suc d ≤ s = omega arith in
    let row = mul-le-mul_right n more in
    let turn : n * s ≡ s * n = omega arith in
    let one : suc d * n ≡ d * n + n = omega arith in
    let fits : 0 < s = omega arith in
    (div-lt_iff_lt-mul {x = d * n} {y = n} fits).1 (omega (arith, row, turn, one))

pub ceil_few : (p n : ℕ) → 0 < n → div_ceil p n ≤ p + 1
ceil_few p n some = let le = div-le_self p n in omega (arith, le)

pub range_next : (f : ℕ → ℤ) (n : ℕ) (before after : List ℤ) → before ≡ map f (range_with_len 0 n) → after ≡ before ++ f n ∷ [] → after ≡ map f (range_with_len 0 (n + 1))
range_next f n before after e h = h ∙ ap (λ xs. xs ++ f n ∷ []) e ∙ sym (map-range_with_len_more f 0 n n (omega arith))

-- a border from its distance, which is far below 64 bits
pub border_is : (b : Bins) (k n : ℕ) → AreBins b → n ≡ div_ceil (span b * k) b.count → n ≤ 562949953421313 → to_z w64 (of_z w64 (to_z w64 (of_z w64 b.low) +ℤ to_z w64 n)) ≡ border b k
border_is b k n h e few = rw (← e) (omega (arith, ints, h.low, h.high, h.order))
