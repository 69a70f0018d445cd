-- The lines of an array.
use Rattle.std.specs.Prelude.{ℕ, zero, suc, ℤ, List, [], ◌∷◌, ◌++◌, map, length, take, drop, codes}
use Rattle.dx_base.specs.declared.elem.ElemType.{ElemType}
use Rattle.dx_base.specs.declared.elem.ElemType.TheVariants.{Byte, UByte, Short, UShort, Int, UInt}
use Rattle.dx_base.specs.Array.{ArrayData, Class, plain, constant, regular, grid_positions, grid_connections, items, width}
use Rattle.dx_native_text.specs.Lines.{Word, Line, bare, count_word, number_word}

-- ---- the line of the class

abbrev pub type_words : ElemType → List Word
type_words Byte = bare (codes "signed") ∷ bare (codes "byte") ∷ []
type_words UByte = bare (codes "unsigned") ∷ bare (codes "byte") ∷ []
type_words Short = bare (codes "short") ∷ []
type_words UShort = bare (codes "unsigned") ∷ bare (codes "short") ∷ []
type_words Int = bare (codes "int") ∷ []
type_words UInt = bare (codes "unsigned") ∷ bare (codes "int") ∷ []

-- the shape stands where the rank is above 0
abbrev pub shape_words : List ℕ → List Word
shape_words [] = []
shape_words (e ∷ es) = bare (codes "shape") ∷ map count_word (e ∷ es)

-- type, rank, shape and number of items, in front of other words
abbrev pub head_words : ElemType → List ℕ → ℕ → List Word → List Word
head_words t es n rest =
    bare (codes "type") ∷ (type_words t ++ bare (codes "rank") ∷ count_word (length es) ∷ (shape_words es ++ bare (codes "items") ∷ count_word n ∷ rest))

abbrev pub data_words : List Word
data_words = bare (codes "data") ∷ bare (codes "follows") ∷ []

-- what stands behind the word `class`
abbrev pub class_words : ArrayData → Class → List Word
class_words a (plain vs) = bare (codes "array") ∷ head_words a.elem a.extents (items a) data_words
class_words a (constant n v) = bare (codes "constantarray") ∷ head_words a.elem a.extents (items a) data_words
class_words a (regular n o d) = bare (codes "regulararray") ∷ head_words a.elem a.extents (items a) []
class_words a (grid_positions cs o ds) = bare (codes "gridpositions") ∷ bare (codes "counts") ∷ map count_word cs
class_words a (grid_connections cs) = bare (codes "gridconnections") ∷ bare (codes "counts") ∷ map count_word cs

-- ---- the lines behind it

-- so many rows of w values each
abbrev pub rows : ℕ → ℕ → List ℤ → List (List ℤ)
rows w zero vs = []
rows w (suc n) vs = take w vs ∷ rows w n (drop w vs)

abbrev pub item_line : List ℤ → Line
item_line vs = map number_word vs

abbrev pub origin_line : List ℤ → Line
origin_line o = bare (codes "origin") ∷ map number_word o

abbrev pub delta_line : List ℤ → Line
delta_line d = bare (codes "delta") ∷ map number_word d

-- one line an item; the item that a constant array stores; origin and delta; and for a grid a delta for each dimension
abbrev pub class_lines : ArrayData → Class → List Line
class_lines a (plain vs) = map item_line (rows (width a) (items a) vs)
class_lines a (constant n v) = item_line v ∷ []
class_lines a (regular n o d) = origin_line o ∷ delta_line d ∷ []
class_lines a (grid_positions cs o ds) = origin_line o ∷ map delta_line (rows (length cs) (length cs) ds)
class_lines a (grid_connections cs) = []
