-- A number that an object is lies where some type of values holds it.
use Rattle.std.proofs.Common.{◌≡◌, ℕ, ◌<◌, ◌≤◌, ◌/◌, ◌%◌, ℤ, length, true, false, Bool, ◌==◌, refl, subst, arith}
use Rattle.std.specs.Prelude.{Some, None, if◌then◌else◌}
use Rattle.std.proofs.lemmas.Bool.{and_parts}
use Rattle.std.proofs.lemmas.Bool.Decides.{nat_tests}
use Rattle.dx_base.specs.Array.{ArrayData, items, value, width}
use Rattle.dx_base.specs.ArrayLimits.{IsLawfulArray}
use Rattle.dx_base.specs.Object.{Tree, array, text, field, group, composite, series}
use Rattle.dx_base.specs.ObjectLimits.{IsLawful}
use Rattle.dx_base.specs.ObjectNumbers.{as_number, is_number}
use Rattle.dx_arrays.specs.Block.{IsSmall}
use Rattle.dx_arrays.proofs.Blocks.{wide, small_at}

zero_in : (w : ℕ) → 0 < w → 0 / w ≡ 0
zero_in w h = omega arith

zero_left : (w : ℕ) → 0 < w → 0 % w ≡ 0
zero_left w h = omega arith

first_small : (a : ArrayData) → IsLawfulArray a → is_number a ≡ true → IsSmall (value a 0 0)
first_small a l h =
    let some = wide a l in
    let test = (and_parts (length a.extents == 0) (items a == 1) h).1 in
    let one : 1 ≤ items a = grind (arith, nat_tests, test) in
    let small = small_at a 0 1 0 l one (omega arith) in
    rw (zero_in (width a) some, zero_left (width a) some) at small

number_small_by : (b : Bool) (z n : ℤ) → (b ≡ true → IsSmall z) → (if b then Some z else None) ≡ Some n → IsSmall n
number_small_by true z n f h = let same : z ≡ n = cc h in subst (λ (x : ℤ). IsSmall x) same (f refl)
number_small_by false z n f h = absurd (cc h)

pub number_small : (t : Tree) (n : ℤ) → IsLawful t → as_number t ≡ Some n → IsSmall n
number_small (array a xs) n l h = number_small_by (is_number a) (value a 0 0) n (first_small a l.0) h
number_small (text b xs) n l h = absurd (cc h)
number_small (field ps xs) n l h = absurd (cc h)
number_small (group ps xs) n l h = absurd (cc h)
number_small (composite ps xs) n l h = absurd (cc h)
number_small (series ps xs) n l h = absurd (cc h)
