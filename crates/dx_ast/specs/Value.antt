-- The value that a constant stands for.
use Rattle.std.specs.Prelude.{ℕ, ℤ, pos, List, [], ◌∷◌, length, Option, Some, None, IsTrue}
use Rattle.dx_base.specs.declared.elem.ElemType.TheVariants as elem
use Rattle.dx_base.specs.Array.{plain}
use Rattle.dx_base.specs.Object.{Tree, PartList, array, text, group, no_parts, part}
use Rattle.dx_base.specs.ObjectLimits.{fits}
use Rattle.dx_ast.specs.declared.constants.Const.{Const}
use Rattle.dx_ast.specs.declared.constants.Const.TheVariants as const
use Rattle.dx_ast.specs.Classes.{Text}

-- a plain array of ints
abbrev pub ints : (extents : List ℕ) → List ℤ → Tree
ints extents values = array (record { elem = elem.Int; extents = extents; class = plain values }) no_parts

-- texts as the members of a group, without names
abbrev pub members : List Text → PartList
members [] = no_parts
members (t ∷ rest) = part None (pos 0) (text t no_parts) (members rest)

-- NULL is no object; an integer is a number; a vector is a single item, of rank 1; a list has an item for each element
abbrev pub value_of : Const → Option Tree
value_of const.Null = None
value_of (const.Int n) = Some (ints [] (n ∷ []))
value_of (const.Text t) = Some (text t no_parts)
value_of (const.Vector ns) = Some (ints (length ns ∷ []) ns)
value_of (const.Ints ns) = Some (ints [] ns)
value_of (const.Vectors width ns) = Some (ints (width ∷ []) ns)
value_of (const.Texts ts) = Some (group (members ts) no_parts)

abbrev pub Fits : Option Tree → Type 0
Fits None = Unit {0}
Fits (Some t) = IsTrue (fits t)

-- the value is within the limits of objects: levels, how many objects, and stated size
abbrev pub HasLawfulValue : Const → Type 0
HasLawfulValue c = Fits (value_of c)
