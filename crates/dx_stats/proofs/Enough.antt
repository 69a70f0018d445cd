-- The sums of as many numbers as an array may have values are in 128 bits.
use Rattle.std.proofs.Common.{◌≡◌, ℕ, suc, ◌+◌, ◌*◌, ◌≤◌, ℤ, pos, negsuc, ◌+ℤ◌, ◌*ℤ◌, List, [], ◌∷◌, length, fold, arith, div-mul-le_self}
use Rattle.std.specs.Prelude.{nat_le}
use Rattle.std.specs.List.{All}
use Rattle.std.proofs.lemmas.Int.{ints}
use Rattle.std.proofs.lemmas.Bool.{and_parts}
use Rattle.std.proofs.lemmas.Bool.Decides.{nat_tests}
use Rattle.std.proofs.Math.Nat.{mul-le-mul_left}
use Rattle.dx_base.specs.Array.{ArrayData, Class, plain, constant, regular, grid_positions, grid_connections, items, items_of, width}
use Rattle.dx_base.specs.ArrayLimits.{IsLawfulArray, value_count_of}
use Rattle.dx_arrays.specs.Block.{IsSmall}
use Rattle.dx_arrays.specs.Reach.{IsWithin}
use Rattle.dx_arrays.proofs.Blocks.{length_values}
use Rattle.dx_stats.specs.Laws.{SumsOfNumbersFit, SumsOfArraysFit}
use Rattle.dx_stats.specs.Numbers.{numbers}
use Rattle.dx_stats.specs.Statistics.{add, add_square, total, total_of_squares}
use Rattle.dx_stats.specs.Sums.{IsUpTo}
use Rattle.dx_stats.proofs.Held.{square_up_to}
use Rattle.dx_stats.proofs.Single.{small_values}

-- ---- sums of so many numbers

total_from : (vs : List ℤ) (n : ℕ) (s : ℤ) → All IsSmall vs → IsWithin (n * 4294967296) s → IsWithin ((n + length vs) * 4294967296) (fold add s vs)
total_from [] n s small w = record { low = omega (arith, ints, w.low); high = omega (arith, ints, w.high) }
total_from (v ∷ vs) n s small w =
    let one = small 0 v (omega arith) in
    let next : IsWithin ((n + 1) * 4294967296) (s +ℤ v) = record { low = omega (arith, ints, w.low, one.low); high = omega (arith, ints, w.high, one.high) } in
    let same : n + 1 + length vs ≡ n + suc (length vs) = omega arith in
    rw same at (total_from vs (n + 1) (s +ℤ v) (λ k d h. small (suc k) d (omega arith)) next)

squares_from : (vs : List ℤ) (n : ℕ) (s : ℤ) → All IsSmall vs → IsUpTo (n * 18446744073709551616) s → IsUpTo ((n + length vs) * 18446744073709551616) (fold add_square s vs)
squares_from [] n s small u = record { some = u.some; few = omega (arith, ints, u.few) }
squares_from (v ∷ vs) n s small u =
    let one = square_up_to v (small 0 v (omega arith)) in
    let next : IsUpTo ((n + 1) * 18446744073709551616) (s +ℤ v *ℤ v) = record { some = omega (arith, ints, u.some, one.some); few = omega (arith, ints, u.few, one.few) } in
    let same : n + 1 + length vs ≡ n + suc (length vs) = omega arith in
    rw same at (squares_from vs (n + 1) (s +ℤ v *ℤ v) (λ k d h. small (suc k) d (omega arith)) next)

-- ---- products of these

-- 2^59, 2^91 and 2^118
square_most : (n : ℕ) → n ≤ 576460752303423488 → n * n ≤ 332306998946228968225951765070086144
square_most n h =
    let one = mul-le-mul_left n h in
    omega (arith, one)

square_of : (v : ℤ) → IsWithin 576460752303423488 v → IsUpTo 332306998946228968225951765070086144 (v *ℤ v)
square_of (pos n) w =
    let few : n ≤ 576460752303423488 = omega (arith, ints, w.high) in
    let most = square_most n few in
    record { some = omega (arith, ints); few = omega (arith, ints, most) }
square_of (negsuc n) w =
    let few : suc n ≤ 576460752303423488 = omega (arith, ints, w.low) in
    let most = square_most (suc n) few in
    record { some = omega (arith, ints); few = omega (arith, ints, most) }

product_most : (n k : ℕ) → n ≤ 134217728 → k ≤ 2475880078570760549798248448 → n * k ≤ 332306998946228968225951765070086144
product_most n k h m =
    let one = mul-le-mul_left n m in
    omega (arith, one, h)

scaled_of : (n : ℕ) (z : ℤ) → n ≤ 134217728 → IsUpTo 2475880078570760549798248448 z → IsUpTo 332306998946228968225951765070086144 (pos n *ℤ z)
scaled_of n (pos k) h u =
    let few : k ≤ 2475880078570760549798248448 = omega (arith, ints, u.few) in
    let most = product_most n k h few in
    record { some = omega (arith, ints); few = omega (arith, ints, most) }
scaled_of n (negsuc k) h u = absurd (omega (arith, ints, u.some))

count_most : (n : ℕ) → n ≤ 134217728 → n * n ≤ 18014398509481984
count_most n h =
    let one = mul-le-mul_left n h in
    omega (arith, one)

-- ---- the law

pub sums_fit : SumsOfNumbersFit
sums_fit vs few small =
    let s = total vs in
    let z = total_of_squares vs in
    let n = length vs in
    let all = total_from vs 0 (pos 0) small (record { low = omega (arith, ints); high = omega (arith, ints) }) in
    let all_squares = squares_from vs 0 (pos 0) small (record { some = omega (arith, ints); few = omega (arith, ints) }) in
    let sum : IsWithin 576460752303423488 s = record { low = omega (arith, ints, all.low, few); high = omega (arith, ints, all.high, few) } in
    let squares : IsUpTo 2475880078570760549798248448 z = record { some = all_squares.some; few = omega (arith, ints, all_squares.few, few) } in
    let product = scaled_of n z few squares in
    let square = square_of s sum in
    let counts = count_most n few in
    record {
      sum = record { low = omega (arith, ints, sum.low); high = omega (arith, ints, sum.high) };
      squares = record { low = omega (arith, ints, squares.some); high = omega (arith, ints, squares.few) };
      scaled_squares = record { low = omega (arith, ints, product.some); high = omega (arith, ints, product.few) };
      squared_sum = record { low = omega (arith, ints, square.some); high = omega (arith, ints, square.few) };
      spread = record { low = omega (arith, ints, product.some, square.few); high = omega (arith, ints, product.few, square.some) };
      divisor = omega (arith, counts);
    }

-- ---- the numbers of an array

few_by : (w : ℕ) (c : Class) → value_count_of (items_of w c) w c ≤ 134217728 → items_of w c * w ≤ 134217728
few_by w (plain vs) h =
    let whole = div-mul-le_self (length vs) w in
    omega (arith, whole, h)
few_by w (constant n v) h = h
few_by w (regular n o d) h = h
few_by w (grid_positions cs o ds) h = h
few_by w (grid_connections cs) h = h

few_values : (a : ArrayData) → IsLawfulArray a → items a * width a ≤ 134217728
few_values a l =
    let n = value_count_of (items a) (width a) a.class in
    let room = (and_parts (nat_le n (16777216 * width a)) (nat_le n 134217728) l.room).1 in
    few_by (width a) a.class (grind (arith, nat_tests, room))

pub array_sums_fit : SumsOfArraysFit
array_sums_fit a l =
    let len = length_values a 0 (items a) in
    let few = few_values a l in
    sums_fit (numbers a) (omega (arith, len, few)) (small_values a 0 (items a) l (omega arith))
