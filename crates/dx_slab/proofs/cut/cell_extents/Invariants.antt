use Rattle.std.proofs.Common.{◌≡◌, ◌++◌, drop}
use Rattle.dx_slab.specs.Cuts as spec
use Rattle.dx_slab.proofs.cut.cell_extents.Given as goal

-- the extents so far, with those of the rest, are all
abbrev pub invariant-loop-count : goal.invariant-loop-count
invariant-loop-count l = l.extents.items ++ spec.cell_extents (drop l.count-index l.counts) ≡ spec.cell_extents l.counts
