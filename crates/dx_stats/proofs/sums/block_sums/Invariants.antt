use Rattle.std.proofs.Common.{◌≤◌, ◌-◌}
use Rattle.dx_arrays.specs.Block.{values_from}
use Rattle.dx_stats.specs.Sums.{AreHeld}
use Rattle.dx_stats.proofs.Held.{FromNone}
use Rattle.dx_stats.proofs.sums.block_sums.Given as goal

-- the items up to here are added
abbrev pub invariant-loop-from : goal.invariant-loop-from
invariant-loop-from l = (l.from ≤ l.items) × FromNone (values_from l.array 0 l.from) l.sums × AreHeld l.sums

abbrev pub decreases-loop-from : goal.decreases-loop-from
decreases-loop-from l = l.items - l.from
