-- Numbers as objects, and the numbers from which the items of an object's arrays are reckoned.
use Rattle.std.specs.Prelude.{ℤ, List, [], ◌∷◌, length, Option, Some, None, Bool, true, ◌&&◌, ◌==◌, if◌then◌else◌}
use Rattle.std.specs.List.{list_all}
use Rattle.dx_base.specs.declared.elem.ElemType.TheVariants.{Int}
use Rattle.dx_base.specs.Elem.{in_range}
use Rattle.dx_base.specs.Array.{Class, plain, constant, regular, grid_positions, grid_connections, ArrayData, items, value}
use Rattle.dx_base.specs.Object.{Tree, PartList, array, text, field, group, composite, series, no_parts, part}

-- an array is a number where its rank is 0 and it has one item, whatever its type and class
abbrev pub is_number : ArrayData → Bool
is_number a = length a.extents == 0 && items a == 1

abbrev pub number_of : ArrayData → Option ℤ
number_of a = if is_number a then Some (value a 0 0) else None

-- the number that an object is, if it is one
abbrev pub as_number : Tree → Option ℤ
as_number (array a xs) = number_of a
as_number (text b xs) = None
as_number (field ps xs) = None
as_number (group ps xs) = None
as_number (composite ps xs) = None
as_number (series ps xs) = None

-- a plain number of type int without attributes
abbrev pub int_number : ℤ → Tree
int_number n = array (record { elem = Int; extents = []; class = plain (n ∷ []) }) no_parts

-- the value that a module answers for a number: such an object, or NULL where the number is no int
abbrev pub number_value : ℤ → Option Tree
number_value n = if in_range Int n then Some (int_number n) else None

-- ---- origins and deltas

abbrev pub are_ints : List ℤ → Bool
are_ints ns = list_all (in_range Int) ns

-- the origin and the deltas of a regular array and of a grid's points are ints
abbrev pub has_int_steps : Class → Bool
has_int_steps (plain vs) = true
has_int_steps (constant n v) = true
has_int_steps (regular n o d) = are_ints o && are_ints d
has_int_steps (grid_positions cs o ds) = are_ints o && are_ints ds
has_int_steps (grid_connections cs) = true

-- so they are in all arrays of an object
abbrev mutual
  pub steps_by_ints : Tree → Bool
  steps_by_ints (array a xs) = has_int_steps a.class && all_step_by_ints xs
  steps_by_ints (text b xs) = all_step_by_ints xs
  steps_by_ints (field ps xs) = all_step_by_ints ps && all_step_by_ints xs
  steps_by_ints (group ps xs) = all_step_by_ints ps && all_step_by_ints xs
  steps_by_ints (composite ps xs) = all_step_by_ints ps && all_step_by_ints xs
  steps_by_ints (series ps xs) = all_step_by_ints ps && all_step_by_ints xs

  pub all_step_by_ints : PartList → Bool
  all_step_by_ints no_parts = true
  all_step_by_ints (part n p t ps) = steps_by_ints t && all_step_by_ints ps
