-- The types of an array's values, and the numbers that each of them holds.
use Rattle.std.specs.Prelude.{ℕ, ℤ, pos, negsuc, Bool, ◌&&◌, int_le}
use Rattle.dx_base.specs.declared.elem.ElemType.{ElemType}
use Rattle.dx_base.specs.declared.elem.ElemType.TheVariants.{Byte, UByte, Short, UShort, Int, UInt}

-- how many bytes a value of the type states
abbrev pub byte_count : ElemType → ℕ
byte_count Byte = 1
byte_count UByte = 1
byte_count Short = 2
byte_count UShort = 2
byte_count Int = 4
byte_count UInt = 4

-- the least number of the type
abbrev pub lowest : ElemType → ℤ
lowest Byte = negsuc 127
lowest UByte = pos 0
lowest Short = negsuc 32767
lowest UShort = pos 0
lowest Int = negsuc 2147483647
lowest UInt = pos 0

-- the greatest number of the type
abbrev pub highest : ElemType → ℤ
highest Byte = pos 127
highest UByte = pos 255
highest Short = pos 32767
highest UShort = pos 65535
highest Int = pos 2147483647
highest UInt = pos 4294967295

-- whether a number is one of the type
abbrev pub in_range : ElemType → ℤ → Bool
in_range t v = int_le (lowest t) v && int_le v (highest t)
