-- A law of slabs: a slab of a grid is a grid.
use Rattle.std.specs.Prelude.{◌≡◌, ℕ, List, true, Some, Ok}
use Rattle.dx_base.specs.Object.{Tree}
use Rattle.dx_base.specs.ObjectLimits.{IsLawful, is_field}
use Rattle.dx_fields.specs.Grids.{grid_counts}
use Rattle.dx_slab.specs.Components.{slab}
use Rattle.dx_slab.specs.Cuts.{cut_counts}
use Rattle.dx_slab.specs.Inputs.{counts_in}
use Rattle.dx_slab.specs.Lawful.{IsCutOf}
use Rattle.dx_slab.specs.declared.cut.Cut.{Cut}

-- the slab of a field that is a grid is the grid with the slab's counts
abbrev pub GivesGrid : Type 0
GivesGrid = (whole : Tree) (cs : List ℕ) (c : Cut) → is_field whole ≡ true → IsLawful whole → counts_in whole ≡ Ok cs → IsCutOf cs c → grid_counts (slab cs c whole) ≡ Some (cut_counts cs c)
