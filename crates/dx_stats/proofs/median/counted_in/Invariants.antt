use Rattle.std.proofs.Common.{◌≡◌, take}
use Rattle.dx_stats.specs.Bins.{counted}
use Rattle.dx_stats.proofs.median.counted_in.Given as goal

-- of so many numbers those that count were taken
abbrev pub invariant-loop-value : goal.invariant-loop-value
invariant-loop-value l = l.counted.items ≡ counted l.bins (take l.value-index l.values)
