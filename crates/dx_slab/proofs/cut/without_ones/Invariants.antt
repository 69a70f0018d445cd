use Rattle.std.proofs.Common.{◌≡◌, ◌++◌, drop}
use Rattle.dx_fields.specs.Grids.{without_ones}
use Rattle.dx_slab.proofs.cut.without_ones.Given as goal

-- the others so far, with those of the rest, are all
abbrev pub invariant-loop-count : goal.invariant-loop-count
invariant-loop-count l = l.others.items ++ without_ones (drop l.count-index l.counts) ≡ without_ones l.counts
