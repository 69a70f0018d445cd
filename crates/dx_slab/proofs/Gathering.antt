-- The plain array of the items of some runs: it can be made, and how large it is.
use Rattle.std.proofs.Common.{◌≡◌, ℕ, zero, suc, ◌+◌, ◌*◌, ◌/◌, ◌%◌, ◌<◌, ◌≤◌, ℤ, pos, List, [], ◌∷◌, ◌++◌, length, Bool, true, ◌&&◌, None, refl, sym, ap, ◌∙◌, arith}
use Rattle.std.specs.Prelude.{nat_le, ◌==◌}
use Rattle.std.specs.List.{list_all}
use Rattle.std.proofs.lemmas.Bool.{and_parts, le-leb, leb-true}
use Rattle.std.specs.Cmp.Derive.{both_true}
use Rattle.std.proofs.Math.Nat.{mul-le-mul_left, mul-le-mul_right, div-mul-le_self, le_of_mul-le-mul_right, mul-mod_left, mod-lt, div-lt_iff_lt-mul}
use Rattle.dx_base.specs.declared.elem.ElemType.{ElemType}
use Rattle.dx_base.specs.declared.elem.ElemType.TheVariants.{Byte, UByte, Short, UShort, Int, UInt}
use Rattle.dx_base.specs.Elem.{in_range, byte_count}
use Rattle.dx_base.specs.Array.{ArrayData, Class, plain, constant, regular, grid_positions, grid_connections, items, items_of, width, number, array_size}
use Rattle.dx_base.specs.ArrayLimits.{IsLawfulArray, value_count_of, is_shape}
use Rattle.dx_arrays.specs.Block.{values_from}
use Rattle.dx_arrays.specs.Makes.{refusal}
use Rattle.dx_arrays.proofs.Blocks as blocks
use Rattle.dx_arrays.proofs.Blocks.{wide, few_values, values_at, at_place}
use Rattle.dx_arrays.proofs.Fits.{value_in_type}
use Rattle.dx_arrays.proofs.InType.{all-of, plain_in_type}
use Rattle.dx_slab.specs.Cuts.{gathered}
use Rattle.dx_slab.specs.Runs.{run_items, run_values, AreWithin}
use Rattle.dx_slab.specs.declared.runs.Runs.{Runs}
use Rattle.dx_slab.proofs.Keeping.{run_total, run_ends, values_none, values_more, values_all, length_values}

-- ---- how many items an array has

itemed_by : (w : ℕ) (c : Class) → value_count_of (items_of w c) w c ≤ 16777216 * w → items_of w c * w ≤ 16777216 * w
itemed_by w (plain vs) h = let most = div-mul-le_self (length vs) w in omega (arith, most)
itemed_by w (constant n v) h = h
itemed_by w (regular n o d) h = h
itemed_by w (grid_positions cs o ds) h = h
itemed_by w (grid_connections cs) h = h

pub itemed : (a : ArrayData) → IsLawfulArray a → items a ≤ 16777216
itemed a l =
    let n = value_count_of (items a) (width a) a.class in
    let room = (and_parts (nat_le n (16777216 * width a)) (nat_le n 134217728) l.room).0 in
    let rows : items a * width a ≤ 16777216 * width a = itemed_by (width a) a.class (leb-true n (16777216 * width a) room) in
    le_of_mul-le-mul_right rows (wide a l)

-- ---- values in their type

list_all-append : (p : ℤ → Bool) (xs ys : List ℤ) → list_all p xs ≡ true → list_all p ys ≡ true → list_all p (xs ++ ys) ≡ true
list_all-append p [] ys h k = k
list_all-append p (x ∷ xs) ys h k =
    let hs = and_parts (p x) (list_all p xs) h in
    both_true hs.0 (list_all-append p xs ys hs.1 k)

block_in_type : (a : ArrayData) (i n : ℕ) → IsLawfulArray a → i + n ≤ items a → list_all (in_range a.elem) (values_from a i n) ≡ true
block_in_type a i n l h =
    let some = wide a l in
    all-of (in_range a.elem) (values_from a i n) (λ k lt.
    let len = blocks.length_values a i n in
    let below : k < n * width a = omega (arith, len) in
    let row : k / width a < n = (div-lt_iff_lt-mul {x = k} {y = n} some).1 below in
    let at : number (values_from a i n) k ≡ at_place a i k = values_at a i n k (pos 0) some below in
    rw at (value_in_type a (i + k / width a) (k % width a) l (omega (arith, row)) (mod-lt k some)))

runs_in_type : (a : ArrayData) (r : Runs) (k : ℕ) → IsLawfulArray a → AreWithin r (items a) → k ≤ r.count → list_all (in_range a.elem) (run_values a r k) ≡ true
runs_in_type a r zero l h le = rw (values_none a r) refl
runs_in_type a r (suc k) l h le =
    let one : suc k ≡ k + 1 = omega arith in
    let end = run_ends r (items a) k h (omega arith) in
    let more : run_values a r (suc k) ≡ run_values a r k ++ values_from a (k * r.stride + r.start) r.len = ap (run_values a r) one ∙ values_more a r k in
    rw more (list_all-append (in_range a.elem) (run_values a r k) (values_from a (k * r.stride + r.start) r.len)
    (runs_in_type a r k l h (omega arith)) (block_in_type a (k * r.stride + r.start) r.len l end))

-- ---- the array can be made

plain_refusal : (a : ArrayData) (vs : List ℤ) (n : ℕ) → IsLawfulArray a → length vs ≡ n * width a → n ≤ items a → list_all (in_range a.elem) vs ≡ true →
    refusal (record { elem = a.elem; extents = a.extents; class = plain vs }) ≡ None
plain_refusal a vs n l len le all =
    let w = width a in
    let some = wide a l in
    let shape : (is_shape a.extents && true) ≡ true = both_true (and_parts (is_shape a.extents) _ l.shape).0 refl in
    let rows : n * w ≤ 16777216 * w = mul-le-mul_right w (let most = itemed a l in let few : n ≤ 16777216 = omega (arith, most) in few) in
    let most = few_values a n l le in
    let room : (nat_le (length vs) (16777216 * w) && nat_le (length vs) 134217728) ≡ true = both_true (le-leb (length vs) (16777216 * w) (omega (arith, len, rows))) (le-leb (length vs) 134217728 (omega (arith, len, most))) in
    let whole : length vs % w ≡ 0 = ap (λ k. k % w) len ∙ mul-mod_left n w in
    let lengths : (length vs % w == 0) ≡ true = rw whole refl in
    let types = sym (plain_in_type a.elem a.extents vs some whole) ∙ all in
    rw (shape, room, lengths, types) refl

pub runs_refusal : (a : ArrayData) (r : Runs) → IsLawfulArray a → AreWithin r (items a) → refusal (record { elem = a.elem; extents = a.extents; class = plain (run_values a r r.count) }) ≡ None
runs_refusal a r l h = plain_refusal a (run_values a r r.count) (r.count * r.len) l (length_values a r r.count) (run_total r (items a) h) (runs_in_type a r r.count l h (omega arith))

-- it is the array of the items
pub gathered_runs : (a : ArrayData) (r : Runs) → record { elem = a.elem; extents = a.extents; class = plain (run_values a r r.count) } ≡ gathered a (run_items r)
gathered_runs a r = ap (λ vs. let own : ArrayData = record { elem = a.elem; extents = a.extents; class = plain vs } in own) (sym (values_all a r))

pub gathered_size : (a : ArrayData) (r : Runs) → array_size (gathered a (run_items r)) ≡ 64 + r.count * r.len * width a * byte_count a.elem
gathered_size a r = ap (λ n. 64 + n * byte_count a.elem) (ap length (values_all a r) ∙ length_values a r r.count)

-- ---- as the code makes it

abbrev pub plain_array : ElemType → List ℕ → List ℤ → ArrayData
plain_array t es vs = record { elem = t; extents = es; class = plain vs }

pub same_plain : (t u : ElemType) (es fs : List ℕ) (vs ws : List ℤ) → t ≡ u → es ≡ fs → vs ≡ ws → plain_array t es vs ≡ plain_array u fs ws
same_plain t u es fs vs ws p q r = λ i. record { elem = p i; extents = q i; class = plain (r i) }

few_bytes : (t : ElemType) → byte_count t ≤ 4
few_bytes Byte = omega arith
few_bytes UByte = omega arith
few_bytes Short = omega arith
few_bytes UShort = omega arith
few_bytes Int = omega arith
few_bytes UInt = omega arith

pub few_values_of : (a : ArrayData) (r : Runs) → IsLawfulArray a → AreWithin r (items a) → r.count * r.len * width a ≤ 134217728
few_values_of a r l h = few_values a (r.count * r.len) l (run_total r (items a) h)

pub few_stated : (a : ArrayData) (r : Runs) → IsLawfulArray a → AreWithin r (items a) → r.count * r.len * width a * byte_count a.elem ≤ 536870912
few_stated a r l h =
    let values = few_values_of a r l h in
    let bytes = few_bytes a.elem in
    let rows = mul-le-mul_left (r.count * r.len * width a) bytes in
    omega (arith, rows, values)
