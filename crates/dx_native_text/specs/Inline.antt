-- The values of attributes that stand in the attribute's own line.
use Rattle.std.specs.Prelude.{ℕ, ℤ, List, [], ◌∷◌, Option, Some, None}
use Rattle.dx_base.specs.declared.elem.ElemType.{ElemType}
use Rattle.dx_base.specs.declared.elem.ElemType.TheVariants.{Byte, UByte, Short, UShort, Int, UInt}
use Rattle.dx_base.specs.Array.{Class, plain, constant, regular, grid_positions, grid_connections}
use Rattle.dx_base.specs.Object.{Tree, array, text, field, group, composite, series, no_parts, part}

pub data Inline : Type 0 where
  as_text : List ℕ → Inline
  as_number : ℤ → Inline

-- the one value that is stored, each by itself
abbrev pub one_value : Class → Option ℤ
one_value (plain []) = None
one_value (plain (z ∷ [])) = Some z
one_value (plain (z ∷ y ∷ vs)) = None
one_value (constant n v) = None
one_value (regular n o d) = None
one_value (grid_positions cs o ds) = None
one_value (grid_connections cs) = None

-- .. where the array has rank 0
abbrev pub value_of_rank_0 : List ℕ → Class → Option ℤ
value_of_rank_0 [] c = one_value c
value_of_rank_0 (e ∷ es) c = None

-- .. and the type int
abbrev pub int_of : ElemType → List ℕ → Class → Option ℤ
int_of Byte es c = None
int_of UByte es c = None
int_of Short es c = None
int_of UShort es c = None
int_of Int es c = value_of_rank_0 es c
int_of UInt es c = None

abbrev pub inline_number : Option ℤ → Option Inline
inline_number None = None
inline_number (Some z) = Some (as_number z)

-- a text without attributes, and a plain number of type int without attributes
abbrev pub inline_of : Tree → Option Inline
inline_of (array a no_parts) = inline_number (int_of a.elem a.extents a.class)
inline_of (array a (part n p t xs)) = None
inline_of (text b no_parts) = Some (as_text b)
inline_of (text b (part n p t xs)) = None
inline_of (field ps xs) = None
inline_of (group ps xs) = None
inline_of (composite ps xs) = None
inline_of (series ps xs) = None
