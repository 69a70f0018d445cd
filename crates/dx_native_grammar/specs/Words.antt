-- Key words, numbers and faults of clauses.
use Rattle.std.specs.Prelude.{ℕ, zero, suc, ◌+◌, ◌*◌, Bool, true, false, ◌&&◌, ◌||◌, if◌then◌else◌, List, [], ◌∷◌, length, take, drop, Option, Some, None, is_some, ℤ, pos, negsuc, ◌-ℤ◌, int_lt, int_le, nat_lt, nat_le, ◌^◌, slice_index_or, bytes_eq, codes}
use Rattle.std.specs.Ordering.{int_eq}
use Rattle.dx_base.specs.declared.code.NativeKind.TheVariants as fault
use Rattle.dx_base.specs.declared.elem.ElemType.{ElemType}
use Rattle.dx_base.specs.declared.elem.ElemType.TheVariants as elem
use Rattle.dx_base.specs.Array.{ArrayData, Class, grid_positions, grid_connections}
use Rattle.dx_base.specs.ArrayLimits.{max_items, max_values, has_room}
use Rattle.dx_base.specs.Elem.{byte_count}
use Rattle.dx_arrays.specs.declared.array.ArrayError.{ArrayError}
use Rattle.dx_arrays.specs.declared.array.ArrayError.TheVariants as array_error
use Rattle.dx_arrays.specs.Makes.{refusal}
use Rattle.dx_places.specs.Grammar.{At}
use Rattle.dx_native_lex.specs.Scan.{Found, lexed, number_of, is_float}
use Rattle.dx_native_lex.specs.Token.{error, misfit}
use Rattle.dx_native_lex.specs.declared.fault.NativeError.{NativeError}
use Rattle.dx_native_lex.specs.declared.scan.Kind.{Kind}
use Rattle.dx_native_lex.specs.declared.scan.Kind.TheVariants as kind
use Rattle.dx_native_lex.specs.declared.token.Number.{Number}
use Rattle.dx_native_grammar.specs.declared.clause.Head.{Head}
use Rattle.dx_native_grammar.specs.declared.clause.Label.{Label}
use Rattle.dx_native_grammar.specs.declared.clause.ListClass.{ListClass}
use Rattle.dx_native_grammar.specs.declared.clause.ListClass.TheVariants as listing
use Rattle.dx_native_grammar.specs.declared.clause.TypeWord.{TypeWord}
use Rattle.dx_native_grammar.specs.declared.clause.TypeWord.TheVariants as word

-- ---- numbers

-- the number of a number that isn't negative
abbrev pub magnitude : ℤ → ℕ
magnitude (pos n) = n
magnitude (negsuc n) = 0

-- a number below the one or above the other
abbrev pub bounds_fault : ℤ → ℤ → Number → Option NativeError
bounds_fault low high n = if int_le low n.value && int_le n.value high then None else Some (error fault.ValueRange n.at)

abbrev pub int_low : ℤ
int_low = negsuc 2147483647

abbrev pub int_high : ℤ
int_high = pos 2147483647

-- so many items of so many values, which are not too many
abbrev pub has_items_room : ℕ → ℕ → Bool
has_items_room w n = nat_le n max_items && nat_le (n * w) max_values

-- a number of items of w values each
abbrev pub items_fault : ℕ → Number → Option NativeError
items_fault w n =
    if int_lt n.value (pos 0) then Some (error fault.ValueRange n.at)
    else if has_items_room w (magnitude n.value) then None
    else Some (error fault.TooManyItems n.at)

-- ---- types

-- one of the words that begin a type
abbrev pub type_of_word : List ℕ → Option TypeWord
type_of_word c =
    if bytes_eq c (codes "signed") then Some word.Signed
    else if bytes_eq c (codes "unsigned") then Some word.Unsigned
    else if bytes_eq c (codes "byte") then Some (word.Whole elem.UByte)
    else if bytes_eq c (codes "ubyte") then Some (word.Whole elem.UByte)
    else if bytes_eq c (codes "short") then Some (word.Whole elem.Short)
    else if bytes_eq c (codes "ushort") then Some (word.Whole elem.UShort)
    else if bytes_eq c (codes "int") then Some (word.Whole elem.Int)
    else if bytes_eq c (codes "uint") then Some (word.Whole elem.UInt)
    else None

abbrev pub signed_type : List ℕ → Option ElemType
signed_type c =
    if bytes_eq c (codes "byte") then Some elem.Byte
    else if bytes_eq c (codes "short") then Some elem.Short
    else if bytes_eq c (codes "int") then Some elem.Int
    else None

abbrev pub unsigned_type : List ℕ → Option ElemType
unsigned_type c =
    if bytes_eq c (codes "byte") then Some elem.UByte
    else if bytes_eq c (codes "short") then Some elem.UShort
    else if bytes_eq c (codes "int") then Some elem.UInt
    else None

-- ---- faults in the place of some words

abbrev pub any_word_fault : Kind → ℕ → NativeError
any_word_fault kind.End at = error fault.Truncated at
any_word_fault kind.Word at = error fault.FloatType at
any_word_fault kind.Quoted at = error fault.Syntax at
any_word_fault kind.Wrong at = error fault.Syntax at

-- a word in the place of the key word `type`
abbrev pub no_type : Found → NativeError
no_type l = any_word_fault l.kind l.at

abbrev pub is_float_type : Kind → List ℕ → Bool
is_float_type kind.End c = false
is_float_type kind.Word c = bytes_eq c (codes "float") || bytes_eq c (codes "double")
is_float_type kind.Quoted c = false
is_float_type kind.Wrong c = false

-- in the place of a type
abbrev pub type_misfit : Found → NativeError
type_misfit l = if is_float_type l.kind l.content then error fault.FloatType l.at else misfit l

abbrev pub class_fault_by : Kind → ℕ → NativeError
class_fault_by kind.End at = error fault.Truncated at
class_fault_by kind.Word at = error fault.UnknownClass at
class_fault_by kind.Quoted at = error fault.Syntax at
class_fault_by kind.Wrong at = error fault.Syntax at

-- in the place of a class
abbrev pub class_fault : Found → NativeError
class_fault l = class_fault_by l.kind l.at

-- a name that stands already is refused at its place
abbrev pub repeated : Bool → ℕ → Option NativeError
repeated stands at = if stands then Some (error fault.Syntax at) else None

-- ---- looking ahead

abbrev pub is_end : Kind → Bool
is_end kind.End = true
is_end kind.Word = false
is_end kind.Quoted = false
is_end kind.Wrong = false

-- the text ends here
abbrev pub at_end : At → Bool
at_end s = is_end (lexed s).kind

abbrev pub is_number_word : Kind → List ℕ → Bool
is_number_word kind.End c = false
is_number_word kind.Word c = is_some (number_of c) || is_float c
is_number_word kind.Quoted c = false
is_number_word kind.Wrong c = false

-- a number comes next, or a word that was to be one
abbrev pub sees_number : At → Bool
sees_number s = is_number_word (lexed s).kind (lexed s).content

abbrev pub is_elsewhere : Kind → List ℕ → Bool
is_elsewhere kind.End c = false
is_elsewhere kind.Word c = bytes_eq c (codes "file") || is_some (number_of c)
is_elsewhere kind.Quoted c = false
is_elsewhere kind.Wrong c = false

-- behind `data`: data in another file, or at an offset
abbrev pub data_elsewhere : At → Option NativeError
data_elsewhere s = if is_elsewhere (lexed s).kind (lexed s).content then Some (error fault.OtherFile (lexed s).at) else None

-- ---- names and indexes

abbrev pub index_with : ℕ → ℕ → Option ℤ → Option Label
index_with count at None = None
index_with count at (Some z) = if int_eq z (pos count) then Some (record { name = None; at = at }) else None

-- the number of the parts before it
abbrev pub index_in : ℕ → ℕ → List ℕ → Option Label
index_in count at c = index_with count at (number_of c)

-- the key word before a part
abbrev pub part_word : ListClass → List ℕ
part_word listing.Field = codes "component"
part_word listing.Group = codes "member"
part_word listing.Composite = codes "member"
part_word listing.Series = codes "member"

-- ---- values of raw bytes

abbrev pub byte : List ℕ → ℕ → ℕ
byte bs i = slice_index_or bs i 0

-- the number of two bytes, of four; the flag says that the first is the highest
abbrev pub two_bytes : Bool → List ℕ → ℕ
two_bytes true bs = byte bs 1 + 256 * byte bs 0
two_bytes false bs = byte bs 0 + 256 * byte bs 1

abbrev pub four_bytes : Bool → List ℕ → ℕ
four_bytes true bs = byte bs 3 + 256 * byte bs 2 + 65536 * byte bs 1 + 16777216 * byte bs 0
four_bytes false bs = byte bs 0 + 256 * byte bs 1 + 65536 * byte bs 2 + 16777216 * byte bs 3

-- the number of a value's bytes
abbrev pub joined : ElemType → Bool → List ℕ → ℕ
joined elem.Byte msb bs = byte bs 0
joined elem.UByte msb bs = byte bs 0
joined elem.Short msb bs = two_bytes msb bs
joined elem.UShort msb bs = two_bytes msb bs
joined elem.Int msb bs = four_bytes msb bs
joined elem.UInt msb bs = four_bytes msb bs

-- two's complement, where the type is signed
abbrev pub complement : ElemType → ℕ → ℤ
complement elem.Byte n = if nat_lt n 128 then pos n else (pos n -ℤ pos 256)
complement elem.UByte n = pos n
complement elem.Short n = if nat_lt n 32768 then pos n else (pos n -ℤ pos 65536)
complement elem.UShort n = pos n
complement elem.Int n = if nat_lt n 2147483648 then pos n else (pos n -ℤ pos 4294967296)
complement elem.UInt n = pos n

-- so many values
abbrev pub decoded : ElemType → Bool → ℕ → List ℕ → List ℤ
decoded t msb zero bs = []
decoded t msb (suc n) bs = complement t (joined t msb (take (byte_count t) bs)) ∷ decoded t msb n (drop (byte_count t) bs)

-- ---- arrays

abbrev pub array_of : Head → Class → ArrayData
array_of h c = record { elem = h.elem; extents = h.extents; class = c }

abbrev pub points_of : List ℕ → List ℤ → List ℤ → ArrayData
points_of cs o ds = record { elem = elem.Int; extents = length cs ∷ []; class = grid_positions cs o ds }

abbrev pub cells_of : List ℕ → ArrayData
cells_of cs = record { elem = elem.Int; extents = 2 ^ length cs ∷ []; class = grid_connections cs }

abbrev pub array_error_kind : ℕ → ArrayError → NativeError
array_error_kind at array_error.RangeOfType = error fault.ValueRange at
array_error_kind at array_error.ItemCount = error fault.Syntax at
array_error_kind at array_error.BadShape = error fault.Syntax at
array_error_kind at array_error.TooManyItems = error fault.TooManyItems at

abbrev pub refused_at : ℕ → Option ArrayError → Option NativeError
refused_at at None = None
refused_at at (Some e) = Some (array_error_kind at e)

-- An array that can't be made: one of its items isn't of its type, or a grid has too many. (Its shape and the lengths of
-- its lists are as they are to be by the grammar.)
unfoldable pub array_fault : ℕ → ArrayData → Option NativeError
array_fault at a = refused_at at (refusal a)

-- a grid of too many items
unfoldable pub room_fault : ℕ → ArrayData → Option NativeError
room_fault at a = if has_room a then None else Some (error fault.TooManyItems at)
