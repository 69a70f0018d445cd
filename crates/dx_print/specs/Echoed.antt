-- The line that Echo prints of its inputs.
use Rattle.std.specs.Prelude.{ℕ, List, [], ◌∷◌, ◌++◌, map, Option, Some, None, if◌then◌else◌}
use Rattle.std.specs.Fmt.{signed_decimal}
use Rattle.dx_base.specs.Tokens.Ascii as ascii
use Rattle.dx_base.specs.Array.{ArrayData, value}
use Rattle.dx_base.specs.Object.{Tree, array, text, field, group, series, composite}
use Rattle.dx_base.specs.ObjectNumbers.{is_number}
use Rattle.dx_base.specs.Words.{spaced}
use Rattle.dx_print.specs.Header.{header, array_header, object_header}

-- a number in decimal, and any other array as its header
abbrev pub array_word : ArrayData → List ℕ
array_word a = if is_number a then signed_decimal (value a 0 0) else array_header a

-- a text as its bytes, a number in decimal, and anything else as its header
abbrev pub object_word : Tree → List ℕ
object_word (array a xs) = array_word a
object_word (text b xs) = b
object_word (field ps xs) = object_header (field ps xs)
object_word (group ps xs) = object_header (group ps xs)
object_word (composite ps xs) = object_header (composite ps xs)
object_word (series ps xs) = object_header (series ps xs)

abbrev pub value_word : Option Tree → List ℕ
value_word None = header None
value_word (Some t) = object_word t

abbrev pub echo_of : List (Option Tree) → List ℕ
echo_of vs = spaced (map value_word vs) ++ ascii.newline ∷ []
