-- Fields and series of slabs: what they are made of, and whether so many fit.
use Rattle.std.specs.Prelude.{◌≡◌, ℕ, ◌+◌, ◌*◌, Bool, true, ◌&&◌, nat_le}
use Rattle.dx_base.specs.Object.{Tree, PartList, levels, count, size}
use Rattle.dx_base.specs.ObjectLimits.{all_named, differ, all_arrays, unplaced, max_levels, max_count, max_size}

-- parts that a field can have, its limits aside
pub record AreComponents (ps : PartList) : Type 0 where
  pub named : all_named ps ≡ true
  pub differ : differ ps ≡ true
  pub arrays : all_arrays ps ≡ true
  pub unplaced : unplaced ps ≡ ps

-- a series of n members as large as this one is within the limits
abbrev pub many_fit : Tree → ℕ → Bool
many_fit t n = nat_le (levels t + 1) max_levels && nat_le (1 + n * count t) max_count && nat_le (64 + 4 * n + n * size t) max_size
