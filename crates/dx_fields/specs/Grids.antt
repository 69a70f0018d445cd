-- Which fields are regular grids, and their counts of points.
use Rattle.std.specs.Prelude.{ℕ, List, [], ◌∷◌, Bool, true, false, ◌==◌, if◌then◌else◌, Option, Some, None, bytes_eq}
use Rattle.dx_base.specs.Array.{Class, plain, constant, regular, grid_positions, grid_connections}
use Rattle.dx_base.specs.Object.{Tree, array, text, field, group, composite, series}
use Rattle.dx_base.specs.ObjectNames.{component}

-- "positions"
abbrev pub positions_name : List ℕ
positions_name = 112 ∷ 111 ∷ 115 ∷ 105 ∷ 116 ∷ 105 ∷ 111 ∷ 110 ∷ 115 ∷ []

-- "connections"
abbrev pub connections_name : List ℕ
connections_name = 99 ∷ 111 ∷ 110 ∷ 110 ∷ 101 ∷ 99 ∷ 116 ∷ 105 ∷ 111 ∷ 110 ∷ 115 ∷ []

-- the counts of the points of a grid, of a class that is one
abbrev pub point_counts : Class → Option (List ℕ)
point_counts (plain vs) = None
point_counts (constant n v) = None
point_counts (regular n o d) = None
point_counts (grid_positions cs o ds) = Some cs
point_counts (grid_connections cs) = None

-- the counts that the cells of a grid are given by
abbrev pub cell_counts : Class → Option (List ℕ)
cell_counts (plain vs) = None
cell_counts (constant n v) = None
cell_counts (regular n o d) = None
cell_counts (grid_positions cs o ds) = None
cell_counts (grid_connections cs) = Some cs

-- of an object that is an array
abbrev pub points_of : Tree → Option (List ℕ)
points_of (array a xs) = point_counts a.class
points_of (text b xs) = None
points_of (field ps xs) = None
points_of (group ps xs) = None
points_of (composite ps xs) = None
points_of (series ps xs) = None

abbrev pub cells_of : Tree → Option (List ℕ)
cells_of (array a xs) = cell_counts a.class
cells_of (text b xs) = None
cells_of (field ps xs) = None
cells_of (group ps xs) = None
cells_of (composite ps xs) = None
cells_of (series ps xs) = None

-- the counts without those that are 1
abbrev pub without_ones : List ℕ → List ℕ
without_ones [] = []
without_ones (c ∷ cs) = if c == 1 then without_ones cs else c ∷ without_ones cs

-- these are the counts, if any
abbrev pub are_counts : List ℕ → Option (List ℕ) → Bool
are_counts cs None = false
are_counts cs (Some ds) = bytes_eq cs ds

-- the cells join points of which these are the counts other than 1: where there are none, there are no cells
abbrev pub are_joined : List ℕ → Option Tree → Bool
are_joined [] None = true
are_joined [] (Some cells) = false
are_joined (c ∷ cs) None = false
are_joined (c ∷ cs) (Some cells) = are_counts (c ∷ cs) (cells_of cells)

abbrev joined : Option (List ℕ) → Option Tree → Option (List ℕ)
joined None cells = None
joined (Some cs) cells = if are_joined (without_ones cs) cells then Some cs else None

abbrev counts_in : Option Tree → Option (List ℕ)
counts_in None = None
counts_in (Some points) = points_of points

-- the counts of the points of a field that is a regular grid
abbrev pub grid_counts : Tree → Option (List ℕ)
grid_counts t = joined (counts_in (component positions_name t)) (component connections_name t)
