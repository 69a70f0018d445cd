-- What a maker of arrays answers.
use Rattle.std.specs.Prelude.{◌≡◌, ℕ, ◌*◌, ◌%◌, ◌&&◌, ◌==◌, nat_le, not, if◌then◌else◌, Option, Some, None, Result, Ok, Err}
use Rattle.dx_base.specs.Array.{ArrayData}
use Rattle.dx_base.specs.ArrayLimits.{has_shape, has_room, has_lengths, is_in_type, max_items, max_values}
use Rattle.dx_arrays.specs.declared.array.ArrayError.{ArrayError}
use Rattle.dx_arrays.specs.declared.array.ArrayError.TheVariants.{BadShape, TooManyItems, ItemCount, RangeOfType}

-- why there is no such array, if there is none: the first of these
abbrev pub refusal : ArrayData → Option ArrayError
refusal a =
    if not (has_shape a) then Some BadShape
    else if not (has_room a) then Some TooManyItems
    else if not (has_lengths a) then Some ItemCount
    else if is_in_type a then None
    else Some RangeOfType

-- why so many values are no items of this width, if they aren't
abbrev pub refused_count : ℕ → ℕ → Option ArrayError
refused_count values w =
    if not (nat_le values (max_items * w) && nat_le values max_values) then Some TooManyItems
    else if values % w == 0 then None
    else Some ItemCount

-- the array itself, or the reason why it is refused
abbrev pub Makes : ArrayData → Result ArrayData ArrayError → Type 0
Makes a (Ok made) = (made ≡ a) × (refusal a ≡ None)
Makes a (Err e) = refusal a ≡ Some e
