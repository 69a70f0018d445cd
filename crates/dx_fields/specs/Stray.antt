-- The values of an array that name no item of another one.
use Rattle.std.specs.Prelude.{ℕ, zero, suc, ◌+◌, ◌*◌, ◌/◌, ◌%◌, ℤ, pos, Bool, ◌&&◌, if◌then◌else◌, Option, Some, None, int_le, int_lt}
use Rattle.dx_base.specs.Array.{ArrayData, items, width, value}

-- the number of an item, where there are n
abbrev pub names_item : ℕ → ℤ → Bool
names_item n v = int_le (pos 0) v && int_lt v (pos n)

-- value number i, counted item by item
abbrev pub value_number : ArrayData → ℕ → ℤ
value_number a i = value a (i / width a) (i % width a)

-- the first of k values from number i on that names none of n items
abbrev pub stray_from : ArrayData → ℕ → ℕ → ℕ → Option ℕ
stray_from a n i zero = None
stray_from a n i (suc k) = if names_item n (value_number a i) then stray_from a n (i + 1) k else Some i

-- the first of all values
abbrev pub first_stray : ArrayData → ℕ → Option ℕ
first_stray a n = stray_from a n 0 (items a * width a)
