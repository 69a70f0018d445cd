use Rattle.std.proofs.Common.{ℕ, ◌<◌}
use Rattle.dx_base.specs.Array.{value}
use Rattle.dx_compute.specs.Ranges.{Holds}
use Rattle.dx_compute.proofs.ranges.item_reach.Given as goal

abbrev pub invariant-loop-place : goal.invariant-loop-place
invariant-loop-place l = (p : ℕ) → p < l.place → Holds l.reach (value l.array l.item p)
