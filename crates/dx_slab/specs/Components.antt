-- The slab of a field: what becomes of each component.
use Rattle.std.specs.Prelude.{ℕ, zero, suc, ◌+◌, ℤ, pos, List, length, Option, Some, None, Bool, true, false, ◌==◌, if◌then◌else◌, codes}
use Rattle.dx_base.specs.Array.{ArrayData}
use Rattle.dx_base.specs.Object.{Tree, PartList, array, text, field, group, composite, series, no_parts, part, parts, attributes, append}
use Rattle.dx_base.specs.ObjectNames.{same_name, find}
use Rattle.dx_fields.specs.Grids.{positions_name, connections_name}
use Rattle.dx_fields.specs.References.{dep_name}
use Rattle.dx_objects.specs.Kinds.{text_of}
use Rattle.dx_slab.specs.Cuts.{kept_points, kept_cells, joined_counts, cut_positions, cut_connections, gathered}
use Rattle.dx_slab.specs.declared.cut.Cut.{Cut}
use Rattle.dx_slab.specs.declared.role.Role.{Role}
use Rattle.dx_slab.specs.declared.role.Role.TheVariants.{Positions, Connections, OnPoints, OnCells, Other}

abbrev pub data_name : List ℕ
data_name = codes "data"

-- what a component depends on: its `dep`, and of `data` without one the positions
abbrev pub dependence : Option (List ℕ) → Option Tree → Option (List ℕ)
dependence name None = if same_name data_name name then Some positions_name else None
dependence name (Some value) = text_of value

abbrev pub role_by : Option (List ℕ) → Role
role_by dep = if same_name positions_name dep then OnPoints else if same_name connections_name dep then OnCells else Other

-- `positions` and `connections` are what they are whatever they depend on
abbrev pub role : Option (List ℕ) → Tree → Role
role name t =
    if same_name positions_name name then Positions
    else if same_name connections_name name then Connections
    else role_by (dependence name (find dep_name (attributes t)))

abbrev pub cut_array : List ℕ → Cut → Role → ArrayData → ArrayData
cut_array cs c Positions a = cut_positions c a
cut_array cs c Connections a = cut_connections cs c
cut_array cs c OnPoints a = gathered a (kept_points cs c)
cut_array cs c OnCells a = gathered a (kept_cells cs c)
cut_array cs c Other a = a

-- a component keeps its attributes
abbrev pub cut_component : List ℕ → Cut → Role → Tree → Tree
cut_component cs c r (array a xs) = array (cut_array cs c r a) xs
cut_component cs c r (text b xs) = text b xs
cut_component cs c r (field ps xs) = field ps xs
cut_component cs c r (group ps xs) = group ps xs
cut_component cs c r (composite ps xs) = composite ps xs
cut_component cs c r (series ps xs) = series ps xs

-- where a slab has no cells, the connections are taken away with all that depends on them
abbrev pub is_of_cells : Role → Bool
is_of_cells Positions = false
is_of_cells Connections = true
is_of_cells OnPoints = false
is_of_cells OnCells = true
is_of_cells Other = false

abbrev pub has_no_cells : List ℕ → Cut → Bool
has_no_cells cs c = length (joined_counts cs c) == 0

abbrev pub is_dropped : List ℕ → Cut → Role → Bool
is_dropped cs c r = if has_no_cells cs c then is_of_cells r else false

abbrev pub cut_part : List ℕ → Cut → Option (List ℕ) → ℤ → Tree → PartList
cut_part cs c n p t = if is_dropped cs c (role n t) then no_parts else part n p (cut_component cs c (role n t) t) no_parts

abbrev pub cut_parts : List ℕ → Cut → PartList → PartList
cut_parts cs c no_parts = no_parts
cut_parts cs c (part n p t ps) = append (cut_part cs c n p t) (cut_parts cs c ps)

-- the slab of a field whose grid has these counts; the field keeps its attributes
abbrev pub slab : List ℕ → Cut → Tree → Tree
slab cs c whole = field (cut_parts cs c (parts whole)) (attributes whole)

-- n slabs of this dimension and thickness from index q on, each with its index as its position
abbrev pub slabs : List ℕ → ℕ → ℕ → Tree → ℕ → ℕ → PartList
slabs cs d t whole q zero = no_parts
slabs cs d t whole q (suc n) = part None (pos q) (slab cs (record { dimension = d; first = q; thickness = t }) whole) (slabs cs d t whole (q + 1) n)
