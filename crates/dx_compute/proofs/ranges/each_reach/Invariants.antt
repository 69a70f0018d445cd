use Rattle.dx_compute.specs.Ranges.{HoldsRun}
use Rattle.dx_compute.proofs.ranges.each_reach.Given as goal

abbrev pub invariant-loop-item : goal.invariant-loop-item
invariant-loop-item l = HoldsRun l.array l.reach l.from l.item
