-- The numbers that Statistics and Histogram are asked of: the items of an array of rank 0, which an input is or has as data.
use Rattle.std.specs.Prelude.{ℕ, ℤ, List, ◌∷◌, [], length, Bool, ◌&&◌, ◌==◌, nat_lt, Option, Some, None, Result, Ok, Err, if◌then◌else◌}
use Rattle.dx_base.specs.declared.code.Code.{Code}
use Rattle.dx_base.specs.declared.code.Code.TheVariants.{BadArgument, NoComponent}
use Rattle.dx_base.specs.Array.{ArrayData, items}
use Rattle.dx_base.specs.Object.{Tree}
use Rattle.dx_base.specs.ObjectLimits.{is_field}
use Rattle.dx_base.specs.ObjectNames.{component}
use Rattle.dx_arrays.specs.Block.{values_from}
use Rattle.dx_objects.specs.Kinds.{array_of}

abbrev pub data_name : List ℕ
data_name = 100 ∷ 97 ∷ 116 ∷ 97 ∷ []

abbrev pub or_code : Code → Option ArrayData → Result ArrayData Code
or_code code None = Err code
or_code code (Some a) = Ok a

-- the component `data` as an array
abbrev pub in_data : Option Tree → Result ArrayData Code
in_data None = Err NoComponent
in_data (Some t) = or_code NoComponent (array_of t)

abbrev pub or_else : Option ArrayData → Result ArrayData Code → Result ArrayData Code
or_else (Some a) other = Ok a
or_else None other = other

-- an array itself, or the data of a field; nothing else will do
abbrev pub in_object : Tree → Result ArrayData Code
in_object t = or_else (array_of t) (if is_field t then in_data (component data_name t) else Err BadArgument)

abbrev pub array_in : Option Tree → Result ArrayData Code
array_in None = Err BadArgument
array_in (Some t) = in_object t

-- an array of single numbers, of which there is one at least
abbrev pub has_numbers : ArrayData → Bool
has_numbers a = length a.extents == 0 && nat_lt 0 (items a)

-- the numbers of such an array in their order
abbrev pub numbers : ArrayData → List ℤ
numbers a = values_from a 0 (items a)

abbrev pub if_numbers : Result ArrayData Code → Result ArrayData Code
if_numbers (Err code) = Err code
if_numbers (Ok a) = if has_numbers a then Ok a else Err BadArgument

-- the array of numbers that an input stands for
abbrev pub numbers_in : Option Tree → Result ArrayData Code
numbers_in v = if_numbers (array_in v)
