-- What the inputs of Slab need to be: a field that is a grid, and which slabs are asked for.
use Rattle.std.specs.Prelude.{ℕ, ◌+◌, ◌-◌, ℤ, pos, negsuc, List, length, Option, Some, None, is_some, is_none, Bool, true, Ok, Err, ◌&&◌, ◌||◌, ◌==◌, nat_le, nat_lt, if◌then◌else◌, codes, bytes_eq, slice_index}
use Rattle.dx_base.specs.declared.code.Code.TheVariants.{BadField, NotRegular}
use Rattle.dx_base.specs.Object.{Tree, PartList, no_parts, part, parts, attributes}
use Rattle.dx_base.specs.ObjectLimits.{is_field}
use Rattle.dx_base.specs.ObjectNames.{same_name, find, component}
use Rattle.dx_base.specs.ObjectNumbers.{as_number}
use Rattle.dx_fields.specs.declared.check.FieldFault.{FieldFault}
use Rattle.dx_fields.specs.Faults.{field_fault}
use Rattle.dx_fields.specs.Grids.{positions_name, connections_name, grid_counts}
use Rattle.dx_fields.specs.References.{dep_name, ref_name, item_count}
use Rattle.dx_objects.specs.Kinds.{text_of}
use Rattle.dx_objects.specs.Runs.{Values}
use Rattle.dx_objects.specs.Values.{value_at}
use Rattle.dx_slab.specs.Answered.{Answered, ◌>>=◌, or_refused}
use Rattle.dx_slab.specs.Components.{data_name}
use Rattle.dx_slab.specs.declared.inputs.Asked.{Asked}
use Rattle.dx_slab.specs.declared.inputs.Asked.TheVariants.{One, Each}

-- the field that it is
abbrev pub field_in : Option Tree → Option Tree
field_in None = None
field_in (Some t) = if is_field t then Some t else None

-- no component but `connections` refers to another one
abbrev pub none_refers : PartList → Bool
none_refers no_parts = true
none_refers (part n p t ps) = (same_name connections_name n || is_none (find ref_name (attributes t))) && none_refers ps

-- where `data` depends on nothing, it has an item for each point
abbrev pub has_data_for : Option Tree → Option Tree → Bool
has_data_for None positions = true
has_data_for (Some t) None = true
has_data_for (Some t) (Some positions) = is_some (find dep_name (attributes t)) || item_count t == item_count positions

abbrev pub with_data : Tree → List ℕ → Answered (List ℕ)
with_data whole cs = if has_data_for (component data_name whole) (component positions_name whole) then Ok cs else Err BadField

abbrev pub grid_in : Tree → Answered (List ℕ)
grid_in whole = if none_refers (parts whole) then or_refused NotRegular (grid_counts whole) else Err NotRegular

abbrev pub unless_fault : Option FieldFault → Answered (List ℕ) → Answered (List ℕ)
unless_fault None there = there
unless_fault (Some fault) there = Err BadField

-- the counts of the grid that a field is
abbrev pub counts_in : Tree → Answered (List ℕ)
counts_in whole = unless_fault (field_fault whole) (grid_in whole >>= with_data whole)

-- ---- dimension, position and thickness

-- a number of at least 0
abbrev pub natural : ℤ → Option ℕ
natural (pos n) = Some n
natural (negsuc n) = None

abbrev pub natural_in : Option ℤ → Option ℕ
natural_in None = None
natural_in (Some n) = natural n

-- the dimensions as letters
abbrev pub lettered : List ℕ → Option ℕ
lettered b = if bytes_eq b (codes "x") then Some 0 else if bytes_eq b (codes "y") then Some 1 else if bytes_eq b (codes "z") then Some 2 else None

abbrev pub lettered_in : Option (List ℕ) → Option ℕ
lettered_in None = None
lettered_in (Some b) = lettered b

abbrev pub either_of : Option ℤ → Option (List ℕ) → Option ℕ
either_of None b = lettered_in b
either_of (Some n) b = natural n

abbrev pub below : ℕ → Option ℕ → Option ℕ
below n None = None
below n (Some d) = if nat_lt d n then Some d else None

-- one of n dimensions, as a number or a letter
abbrev pub dimension_in : ℕ → Option Tree → Option ℕ
dimension_in n None = None
dimension_in n (Some t) = below n (either_of (as_number t) (text_of t))

-- a position or none, where it is NULL or a number
abbrev pub position_of : Option ℤ → Option (Option ℤ)
position_of None = None
position_of (Some q) = Some (Some q)

abbrev pub position_in : Option Tree → Option (Option ℤ)
position_in None = Some None
position_in (Some t) = position_of (as_number t)

-- a thickness, of which NULL is none
abbrev pub thickness_in : Option Tree → Option ℕ
thickness_in None = Some 0
thickness_in (Some t) = natural_in (as_number t)

-- within p points: the slab at a position, or each one
abbrev pub placed : ℕ → ℕ → ℕ → Option ℤ → Option Asked
placed p d t None = if nat_le t (p - 1) then Some (Each d t) else None
placed p d t (Some (pos q)) = if nat_le (q + t) (p - 1) then Some (One (record { dimension = d; first = q; thickness = t })) else None
placed p d t (Some (negsuc q)) = None

abbrev pub asked_by : List ℕ → Option ℕ → Option (Option ℤ) → Option ℕ → Option Asked
asked_by cs None at t = None
asked_by cs (Some d) None t = None
asked_by cs (Some d) (Some at) None = None
asked_by cs (Some d) (Some at) (Some t) = placed (slice_index cs d) d t at

-- the slabs that the inputs behind the field ask for
abbrev pub asked_in : List ℕ → Values → Option Asked
asked_in cs inputs = asked_by cs (dimension_in (length cs) (value_at inputs 1)) (position_in (value_at inputs 2)) (thickness_in (value_at inputs 3))
