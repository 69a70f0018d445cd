-- Where the values of an array stand that has parts, and which of them lie in the int range.
use Rattle.std.proofs.Common.{◌≡◌, ℕ, ◌+◌, ◌*◌, ◌/◌, ◌<◌, ◌≤◌, ℤ, pos, negsuc, Bool, true, false, List, [], ◌∷◌, ◌⊎◌, inl, inr, length, Some, None, refl, sym, ap, subst, ◌∙◌, arith}
use Rattle.std.specs.Prelude.{◌==◌, nat_le, nat_lt, int_le, if◌then◌else◌, slice_index_or}
use Rattle.std.proofs.lemmas.Bool.{eqb-true, leb-true, lt-ltb}
use Rattle.std.proofs.lemmas.Nat.{mul-le, div-add-mod'}
use Rattle.dx_base.specs.declared.elem.ElemType.{ElemType}
use Rattle.dx_base.specs.declared.elem.ElemType.TheVariants.{Byte, UByte, Short, UShort, Int, UInt}
use Rattle.dx_base.specs.Elem.{in_range}
use Rattle.dx_base.specs.Array.{ArrayData, Class, plain, constant, regular, grid_positions, grid_connections, items, items_of, width, value, value_of}
use Rattle.dx_base.specs.ArrayLimits.{IsLawfulArray}
use Rattle.dx_arrays.specs.Classes.{plain_of}
use Rattle.dx_arrays.proofs.Fits.{value_in_type}
use Rattle.dx_expr.specs.Value.{is_int}
use Rattle.dx_expr.proofs.Fitting.{both_true}
use Rattle.dx_expr_blocks.specs.declared.inputs.Table.{Table}
use Rattle.dx_expr_blocks.specs.declared.inputs.Table.TheVariants as table
use Rattle.dx_expr_blocks.specs.Sources.{AreInts, AreRows, IsTable}
use Rattle.dx_compute_meaning.specs.Arrays.{Arrays, array_at, given, other_count, fits_in, item_of}
use Rattle.dx_compute_meaning.proofs.Shapes.{size_is}

-- ---- types whose values are ints

below : (h n : ℕ) → h < 2147483648 → nat_le n h ≡ true → nat_lt n 2147483648 ≡ true
below h n few le = let g : n ≤ h = leb-true n h le in lt-ltb n 2147483648 (omega (arith, few, g))

pub ints_in : (t : ElemType) → (t ≡ UInt → ⊥) → (v : ℤ) → in_range t v ≡ true → is_int v ≡ true
ints_in Byte other (pos n) h = below 127 n (omega arith) (both_true (int_le (negsuc 127) (pos n)) (int_le (pos n) (pos 127)) h).1
ints_in Byte other (negsuc n) h = below 127 n (omega arith) (both_true (int_le (negsuc 127) (negsuc n)) (int_le (negsuc n) (pos 127)) h).0
ints_in UByte other (pos n) h = below 255 n (omega arith) (both_true (int_le (pos 0) (pos n)) (int_le (pos n) (pos 255)) h).1
ints_in UByte other (negsuc n) h = absurd cc
ints_in Short other (pos n) h = below 32767 n (omega arith) (both_true (int_le (negsuc 32767) (pos n)) (int_le (pos n) (pos 32767)) h).1
ints_in Short other (negsuc n) h = below 32767 n (omega arith) (both_true (int_le (negsuc 32767) (negsuc n)) (int_le (negsuc n) (pos 32767)) h).0
ints_in UShort other (pos n) h = below 65535 n (omega arith) (both_true (int_le (pos 0) (pos n)) (int_le (pos n) (pos 65535)) h).1
ints_in UShort other (negsuc n) h = absurd cc
ints_in Int other (pos n) h = below 2147483647 n (omega arith) (both_true (int_le (negsuc 2147483647) (pos n)) (int_le (pos n) (pos 2147483647)) h).1
ints_in Int other (negsuc n) h = below 2147483647 n (omega arith) (both_true (int_le (negsuc 2147483647) (negsuc n)) (int_le (negsuc n) (pos 2147483647)) h).0
ints_in UInt other v h = absurd (other refl)

-- ---- items

some_items : (a : ArrayData) (n : ℕ) → fits_in n (other_count (Some a)) ≡ true → (items a ≡ 1) ⊎ (items a ≡ n)
some_items a n h = by (items a == 1) refl h
  where
    by : (t : Bool) → (items a == 1) ≡ t → fits_in n (if t then None else Some (items a)) ≡ true → (items a ≡ 1) ⊎ (items a ≡ n)
    by true is h = inl (eqb-true (items a) 1 is)
    by false is h = inr (eqb-true (items a) n h)

item_in : (a : ArrayData) (n item : ℕ) → (items a ≡ 1) ⊎ (items a ≡ n) → item < n → item_of a item < items a
item_in a n item count below = by (items a == 1) refl count
  where
    by : (t : Bool) → (items a == 1) ≡ t → (items a ≡ 1) ⊎ (items a ≡ n) → (if t then 0 else item) < items a
    by true is c = let one : items a ≡ 1 = eqb-true (items a) 1 is in omega (arith, one)
    by false is (inl one) = let bad : (1 == 1) ≡ false = ap (λ m. m == 1) (sym one) ∙ is in absurd cc
    by false is (inr all) = omega (arith, all, below)

-- all values are ints where the type's are
pub are_ints : (a : ArrayData) (n : ℕ) → IsLawfulArray a → fits_in n (other_count (Some a)) ≡ true → ((v : ℤ) → in_range a.elem v ≡ true → is_int v ≡ true) → AreInts (given (Some a ∷ [])) n 0
are_ints a n lawful fits ints item place h below =
    ints (value a (item_of a item) place) (value_in_type a (item_of a item) place lawful (item_in a n item (some_items a n fits) h) (subst (λ m. place < m) (size_is a.extents) below))

-- ---- rows

row_within : (l w i p : ℕ) → i < l / w → p < w → i * w + p < l
row_within l w i p h k =
    let all = div-add-mod' l w in
    let upto : (i + 1) * w ≤ l / w * w = mul-le (i + 1) w (l / w) w (omega (arith, h)) (omega arith) in
    let next : (i + 1) * w ≡ i * w + w = omega arith in
    omega (arith, all, upto, next, k)

plain_is : (c : Class) (values : List ℤ) → plain_of c ≡ Some values → c ≡ plain values
plain_is (plain vs) values h = let e : vs ≡ values = cc in ap plain e
plain_is (constant n v) values h = absurd cc
plain_is (regular n o d) values h = absurd cc
plain_is (grid_positions cs o ds) values h = absurd cc
plain_is (grid_connections cs) values h = absurd cc

-- the values of a plain array with other than one item stand in rows of its width
pub are_rows : (a : ArrayData) (n : ℕ) (values : List ℤ) (w : ℕ) → fits_in n (other_count (Some a)) ≡ true → (items a ≡ 1 → ⊥) → plain_of a.class ≡ Some values → w ≡ width a → AreRows (given (Some a ∷ [])) n 0 values w
are_rows a n values w fits many is same item place h below =
    let class : a.class ≡ plain values = plain_is a.class values is in
    let own : item_of a item ≡ item = by (items a == 1) refl in
    let there : item < items_of (width a) (plain values) = subst (λ c. item < items_of (width a) c) class (subst (λ i. i < items a) own (item_in a n item (some_items a n fits) h)) in
    let in_row : place < width a = subst (λ m. place < m) (size_is a.extents) below in (
      subst (λ m. item * m + place < length values) (sym same) (row_within (length values) (width a) item place there in_row),
      ap (λ i. value a i place) own ∙ ap (λ c. value_of (width a) c item place) class ∙ ap (λ m. slice_index_or values (item * m + place) (pos 0)) (sym same),
    )
  where
    by : (t : Bool) → (items a == 1) ≡ t → (if t then 0 else item) ≡ item
    by true is = absurd (many (eqb-true (items a) 1 is))
    by false is = refl

-- what holds of an array by itself holds of it among others
pub table_at : (arrays : Arrays) (n k : ℕ) (a : ArrayData) (t : Table) → array_at arrays k ≡ Some a → IsTable (given (Some a ∷ [])) n 0 t → IsTable (given arrays) n k t
table_at arrays n k a (table.Rows values width) is h = subst (λ o. IsTable (given (o ∷ [])) n 0 (table.Rows values width)) (sym is) h
table_at arrays n k a (table.IntRows values width) is h = subst (λ o. IsTable (given (o ∷ [])) n 0 (table.IntRows values width)) (sym is) h
table_at arrays n k a table.Ints is h = subst (λ o. IsTable (given (o ∷ [])) n 0 table.Ints) (sym is) h
table_at arrays n k a table.Other is h = tt
