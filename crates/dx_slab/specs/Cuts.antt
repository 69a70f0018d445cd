-- A slab of a grid: its counts, the points and cells that it keeps, and what becomes of arrays.
use Rattle.std.specs.Prelude.{ℕ, ◌+◌, ◌-◌, ◌*◌, ◌^◌, ℤ, pos, ◌+ℤ◌, ◌*ℤ◌, List, [], ◌∷◌, map, length, ◌&&◌, ◌==◌, if◌then◌else◌, slice_index, slice_set}
use Rattle.std.specs.List.{range_with_len, flat_map}
use Rattle.dx_base.specs.declared.elem.ElemType.TheVariants.{Int}
use Rattle.dx_base.specs.Array.{Class, plain, constant, regular, grid_positions, grid_connections, ArrayData, number, item}
use Rattle.dx_fields.specs.Grids.{without_ones}
use Rattle.dx_slab.specs.Kept.{kept}
use Rattle.dx_slab.specs.declared.cut.Cut.{Cut}

-- the counts of a slab's points: along its dimension one more than its thickness
abbrev pub cut_counts : List ℕ → Cut → List ℕ
cut_counts cs c = slice_set cs c.dimension (c.thickness + 1)

-- the points of the slab: those whose index along its dimension is `first` to `first + thickness`
abbrev pub kept_points : List ℕ → Cut → List ℕ
kept_points cs c = kept cs c.dimension c.first (c.thickness + 1)

-- how many cells stand side by side where there are p points, a single point having one beside it
abbrev pub cells_along : ℕ → ℕ
cells_along p = if p == 1 then 1 else p - 1

abbrev pub cell_extents : List ℕ → List ℕ
cell_extents cs = map cells_along cs

-- along the dimension of the slab, where there are p points: the cells between its points; of a slab of one index the cell
-- behind it, and at the last index the cell before it
abbrev pub first_cell : ℕ → Cut → ℕ
first_cell p c = if c.thickness == 0 && c.first == p - 1 then c.first - 1 else c.first

abbrev pub cells_kept : Cut → ℕ
cells_kept c = if c.thickness == 0 then 1 else c.thickness

abbrev pub kept_cells : List ℕ → Cut → List ℕ
kept_cells cs c = kept (cell_extents cs) c.dimension (first_cell (slice_index cs c.dimension) c) (cells_kept c)

-- the counts by which the cells of a slab are given; where there are none it has no cells
abbrev pub joined_counts : List ℕ → Cut → List ℕ
joined_counts cs c = without_ones (cut_counts cs c)

-- the origin of a grid moved to the first of the kept points
abbrev pub moved : List ℤ → List ℤ → Cut → List ℤ
moved o ds c = map (λ k. number o k +ℤ pos c.first *ℤ number ds (c.dimension * length o + k)) (range_with_len 0 (length o))

abbrev pub cut_class : Cut → Class → Class
cut_class c (plain vs) = plain vs
cut_class c (constant n v) = constant n v
cut_class c (regular n o d) = regular n o d
cut_class c (grid_positions cs o ds) = grid_positions (cut_counts cs c) (moved o ds c) ds
cut_class c (grid_connections cs) = grid_connections cs

-- the points of a grid, cut to the points of the slab
abbrev pub cut_positions : Cut → ArrayData → ArrayData
cut_positions c a = record { elem = a.elem; extents = a.extents; class = cut_class c a.class }

-- the cells of a slab that has cells
abbrev pub cut_connections : List ℕ → Cut → ArrayData
cut_connections cs c = record { elem = Int; extents = 2 ^ length (joined_counts cs c) ∷ []; class = grid_connections (joined_counts cs c) }

-- the plain array of some items of an array
abbrev pub gathered : ArrayData → List ℕ → ArrayData
gathered a is = record { elem = a.elem; extents = a.extents; class = plain (flat_map (item a) is) }
