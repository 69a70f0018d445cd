-- The first of many values that names no item, value by value.
use Rattle.std.proofs.Common.{◌≡◌, ℕ, zero, suc, ◌+◌, ◌-◌, ◌*◌, ◌/◌, ◌%◌, ◌<◌, ◌≤◌, ℤ, pos, List, length, min, Option, Some, None, true, false, cond, refl, sym, ◌∙◌, arith, inl, inr}
use Rattle.std.proofs.Math.Nat.{div-lt_iff_lt-mul, mod-lt, mod-mod, mul-zero, mul-le-mul_right}
use Rattle.std.specs.Prelude.{IsTrue, slice_index_or}
use Rattle.std.proofs.lemmas.Bool.{eqb-true, cases_Bool, cases_lt}
use Rattle.std.proofs.lemmas.Nat.{div-add-mod'}
use Rattle.dx_base.specs.Array.{ArrayData, Class, plain, constant, regular, grid_positions, grid_connections, items, items_of, width, value_of}
use Rattle.dx_base.specs.ArrayLimits.{IsLawfulArray, has_lengths_of}
use Rattle.dx_arrays.specs.Classes.{kind_of, plain_of}
use Rattle.dx_arrays.specs.declared.array.ArrayClass.TheVariants.{Constant}
use Rattle.dx_fields.specs.Stray.{names_item, value_number, stray_from, first_stray}

-- one value, and the others
one_more : (a : ArrayData) (n i total : ℕ) → i < total → stray_from a n i (total - i) ≡ cond (names_item n (value_number a i)) (stray_from a n (i + 1) (total - (i + 1))) (Some i)
one_more a n i total h = let left : total - i ≡ suc (total - (i + 1)) = omega arith in rw left refl

-- the value names an item
pub passed : (a : ArrayData) (n i total : ℕ) (all : Option ℕ) → i < total → stray_from a n i (total - i) ≡ all → names_item n (value_number a i) ≡ true → stray_from a n (i + 1) (total - (i + 1)) ≡ all
passed a n i total all h e t = let now = one_more a n i total h in let then : stray_from a n i (total - i) ≡ stray_from a n (i + 1) (total - (i + 1)) = rw t at now in sym then ∙ e

-- it names none
pub found : (a : ArrayData) (n i total : ℕ) (all : Option ℕ) → i < total → stray_from a n i (total - i) ≡ all → names_item n (value_number a i) ≡ false → Some i ≡ all
found a n i total all h e t = let now = one_more a n i total h in let then : stray_from a n i (total - i) ≡ Some i = rw t at now in sym then ∙ e

-- no value is left
pub ended : (a : ArrayData) (n i total : ℕ) (all : Option ℕ) → total ≤ i → stray_from a n i (total - i) ≡ all → None ≡ all
ended a n i total all h e = let left : total - i ≡ 0 = omega arith in rw left at e

-- the value with a number is in an item, in one of its places
pub in_item : (i w n : ℕ) → 0 < w → i < n * w → i / w < n
in_item i w n p h = (div-lt_iff_lt-mul {k = w} {x = i} {y = n} p).1 h

stored_by : (w : ℕ) (c : Class) (vs : List ℤ) → plain_of c ≡ Some vs → IsTrue (has_lengths_of w c) → items_of w c * w ≡ length vs
stored_by w (plain us) vs e h =
    let same : us ≡ vs = cc in
    let none : length us % w ≡ 0 = eqb-true (length us % w) 0 h in
    let whole = div-add-mod' (length us) w in
    rw (← same) (omega (arith, none, whole))
stored_by w (constant n v) vs e h = absurd (cc e)
stored_by w (regular n o d) vs e h = absurd (cc e)
stored_by w (grid_positions cs o ds) vs e h = absurd (cc e)
stored_by w (grid_connections cs) vs e h = absurd (cc e)

-- a plain array stores all its values
pub stored_count : (a : ArrayData) (vs : List ℤ) → IsLawfulArray a → plain_of a.class ≡ Some vs → items a * width a ≡ length vs
stored_count a vs l e = stored_by (width a) a.class vs e l.lengths

value_by : (w : ℕ) (c : Class) (vs : List ℤ) (i : ℕ) → plain_of c ≡ Some vs → value_of w c (i / w) (i % w) ≡ slice_index_or vs i (pos 0)
value_by w (plain us) vs i e =
    let same : us ≡ vs = cc in
    let place : i / w * w + i % w ≡ i = div-add-mod' i w in
    rw (← same, place) refl
value_by w (constant n v) vs i e = absurd (cc e)
value_by w (regular n o d) vs i e = absurd (cc e)
value_by w (grid_positions cs o ds) vs i e = absurd (cc e)
value_by w (grid_connections cs) vs i e = absurd (cc e)

-- they are numbered as they are stored
pub stored_value : (a : ArrayData) (vs : List ℤ) (i : ℕ) → plain_of a.class ≡ Some vs → value_number a i ≡ slice_index_or vs i (pos 0)
stored_value a vs i e = value_by (width a) a.class vs i e

-- a value that is found is also found among more
found_among : (a : ArrayData) (n i k total x : ℕ) → k ≤ total → stray_from a n i k ≡ Some x → stray_from a n i total ≡ Some x
found_among a n i zero total x h e = absurd (cc e)
found_among a n i (suc k) zero x h e = absurd (omega (arith, h))
found_among a n i (suc k) (suc total) x h e =
    elim (names_item n (value_number a i)) as (λ b. cond b (stray_from a n (i + 1) k) (Some i) ≡ Some x → cond b (stray_from a n (i + 1) total) (Some i) ≡ Some x) [
      | true ↦ λ f. found_among a n (i + 1) k total x (omega (arith, h)) f
      | false ↦ λ f. f
    ] e

-- where none is astray, each names an item
each_named : (a : ArrayData) (n i k j : ℕ) → stray_from a n i k ≡ None → i ≤ j → j < i + k → names_item n (value_number a j) ≡ true
each_named a n i zero j e low high = absurd (omega (arith, low, high))
each_named a n i (suc k) j e low high =
    elim (cases_Bool (names_item n (value_number a i))) [
      | inl here ↦
          let others : stray_from a n (i + 1) k ≡ None = rw here at e in
          elim (cases_lt i j) [
            | inl behind ↦ each_named a n (i + 1) k j others (omega (arith, behind)) (omega (arith, high))
            | inr last ↦ let same : i ≡ j = omega (arith, low, last) in rw (← same) here
          ]
      | inr astray ↦ let found : Some i ≡ None = rw astray at e in absurd (cc found)
    ]

-- where each value names an item, none is astray
pub none_stray : (a : ArrayData) (n i k : ℕ) → ((j : ℕ) → j < i + k → names_item n (value_number a j) ≡ true) → stray_from a n i k ≡ None
none_stray a n i zero h = refl
none_stray a n i (suc k) h =
    let now : names_item n (value_number a i) ≡ true = h i (omega arith) in
    rw now (none_stray a n (i + 1) k (λ j l. h j (omega (arith, l))))

equal_items : (w : ℕ) (c : Class) (i j place : ℕ) → kind_of c ≡ Constant → value_of w c i place ≡ value_of w c j place
equal_items w (plain vs) i j place is = absurd (cc is)
equal_items w (constant n v) i j place is = refl
equal_items w (regular n o d) i j place is = absurd (cc is)
equal_items w (grid_positions cs o ds) i j place is = absurd (cc is)
equal_items w (grid_connections cs) i j place is = absurd (cc is)

-- a value of a constant array stands in its first item
in_first : (a : ArrayData) (j : ℕ) → kind_of a.class ≡ Constant → value_number a j ≡ value_number a (j % width a)
in_first a j is = rw (mod-mod j (width a)) (equal_items (width a) a.class (j / width a) (j % width a / width a) (j % width a) is)

-- of so many values that begin with the first item
first_tells_by : (a : ArrayData) (n total : ℕ) (o : Option ℕ) → kind_of a.class ≡ Constant → 0 < width a → width a ≤ total → stray_from a n 0 (width a) ≡ o → stray_from a n 0 (width a) ≡ stray_from a n 0 total
first_tells_by a n total (Some x) is wide more found = found ∙ sym (found_among a n 0 (width a) total x more found)
first_tells_by a n total None is wide more none =
    none ∙ sym (none_stray a n 0 total (λ j l.
    let place : j % width a < width a = mod-lt j wide in
    rw (in_first a j is) (each_named a n 0 (width a) (j % width a) none (omega arith) (omega (arith, place)))))

-- the first item of a constant array, if it has one, tells of all
pub constant_tells : (a : ArrayData) (n : ℕ) → kind_of a.class ≡ Constant → stray_from a n 0 (min (items a) 1 * width a) ≡ first_stray a n
constant_tells a n is =
    elim (cases_lt 0 (items a)) [
      | inl some ↦
          let one : min (items a) 1 * width a ≡ width a = (let first : min (items a) 1 ≡ 1 = omega (arith, some) in rw first (omega arith)) in
          elim (cases_lt 0 (width a)) [
            | inl wide ↦
                let first : 1 * width a ≤ items a * width a = mul-le-mul_right (width a) (omega (arith, some)) in
                rw one (first_tells_by a n (items a * width a) (stray_from a n 0 (width a)) is wide (omega (arith, first)) refl)
            | inr bare ↦
                let none : width a ≡ 0 = omega (arith, bare) in
                let all : items a * width a ≡ width a = rw none (mul-zero (items_of 0 a.class)) in
                rw (one, all) refl
          ]
      | inr none ↦
          let few : min (items a) 1 ≡ items a = omega (arith, none) in
          rw few refl
    ]
