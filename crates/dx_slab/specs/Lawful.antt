-- Slabs that a grid has, and fields that are that grid.
use Rattle.std.specs.Prelude.{◌≡◌, ◌<◌, ◌≤◌, ℕ, ◌+◌, List, length, Some, slice_index}
use Rattle.std.specs.List.{All}
use Rattle.dx_base.specs.Array.{product}
use Rattle.dx_base.specs.Object.{Tree, PartList, no_parts, part}
use Rattle.dx_fields.specs.Grids.{points_of, cells_of, without_ones}
use Rattle.dx_fields.specs.References.{item_count}
use Rattle.dx_slab.specs.Components.{role}
use Rattle.dx_slab.specs.Cuts.{cell_extents}
use Rattle.dx_slab.specs.declared.cut.Cut.{Cut}
use Rattle.dx_slab.specs.declared.inputs.Asked.{Asked}
use Rattle.dx_slab.specs.declared.inputs.Asked.TheVariants.{One, Each}
use Rattle.dx_slab.specs.declared.role.Role.{Role}
use Rattle.dx_slab.specs.declared.role.Role.TheVariants.{Positions, Connections, OnPoints, OnCells, Other}

-- the counts of a grid that there is
pub record AreCounts (cs : List ℕ) : Type 0 where
  pub some : All (λ c. 0 < c) cs
  pub few : product cs ≤ 16777216
  pub dimensions : length cs ≤ 3

-- the grid has the dimension, and its last point along it is not passed
pub record IsCutOf (cs : List ℕ) (c : Cut) : Type 0 where
  pub counts : AreCounts cs
  pub dimension : c.dimension < length cs
  pub end : c.first + c.thickness < slice_index cs c.dimension

-- a component is what its role says: of a grid with these counts
abbrev pub PlaysRole : List ℕ → Role → Tree → Type 0
PlaysRole cs Positions t = points_of t ≡ Some cs
PlaysRole cs Connections t = cells_of t ≡ Some (without_ones cs)
PlaysRole cs OnPoints t = item_count t ≡ product cs
PlaysRole cs OnCells t = item_count t ≡ product (cell_extents cs)
PlaysRole cs Other t = Unit {0}

abbrev pub PlayRoles : List ℕ → PartList → Type 0
PlayRoles cs no_parts = Unit {0}
PlayRoles cs (part n p t ps) = PlaysRole cs (role n t) t × PlayRoles cs ps

-- the slabs that are asked for are slabs of the grid
abbrev pub IsAskedOf : List ℕ → Asked → Type 0
IsAskedOf cs (One c) = IsCutOf cs c
IsAskedOf cs (Each d t) = IsCutOf cs (record { dimension = d; first = 0; thickness = t })
