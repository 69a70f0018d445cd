-- The header of a value: one line that says what it is, whatever is below it.
use Rattle.std.specs.Prelude.{ℕ, List, [], ◌∷◌, ◌++◌, length, Option, Some, None, codes}
use Rattle.std.specs.Fmt.{decimal}
use Rattle.dx_base.specs.Array.{ArrayData, items}
use Rattle.dx_base.specs.Object.{Tree, array, text, field, group, series, composite, part_count}
use Rattle.dx_arrays.specs.declared.array.ArrayClass.{ArrayClass}
use Rattle.dx_arrays.specs.declared.array.ArrayClass.TheVariants.{Plain, Constant, Regular, GridPositions, GridConnections}
use Rattle.dx_arrays.specs.Classes.{kind_of}
use Rattle.dx_base.specs.Words.{counts_behind, quoted, type_word}

abbrev pub class_word : ArrayClass → List ℕ
class_word Plain = codes "plain"
class_word Constant = codes "constant"
class_word Regular = codes "regular"
class_word GridPositions = codes "gridpositions"
class_word GridConnections = codes "gridconnections"

-- the extents, where there are any
abbrev pub shape_text : List ℕ → List ℕ
shape_text [] = []
shape_text (e ∷ es) = codes " shape" ++ counts_behind (e ∷ es)

abbrev pub array_header : ArrayData → List ℕ
array_header a =
    codes "array " ++ class_word (kind_of a.class) ++ codes " " ++ type_word a.elem
    ++ codes " rank " ++ decimal (length a.extents) ++ shape_text a.extents ++ codes " items " ++ decimal (items a)

abbrev pub object_header : Tree → List ℕ
object_header (array a xs) = array_header a
object_header (text b xs) = codes "text " ++ quoted b
object_header (field ps xs) = codes "field " ++ decimal (part_count ps) ++ codes " components"
object_header (group ps xs) = codes "group " ++ decimal (part_count ps) ++ codes " members"
object_header (composite ps xs) = codes "group " ++ decimal (part_count ps) ++ codes " members"
object_header (series ps xs) = codes "series " ++ decimal (part_count ps) ++ codes " members"

abbrev pub header : Option Tree → List ℕ
header None = codes "NULL"
header (Some t) = object_header t
