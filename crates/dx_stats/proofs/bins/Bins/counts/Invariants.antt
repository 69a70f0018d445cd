use Rattle.std.proofs.Common.{take}
use Rattle.dx_stats.proofs.CountLaws.{AreCounts}
use Rattle.dx_stats.proofs.bins.Bins.counts.Given as goal

-- of so many numbers the counts are made
abbrev pub invariant-loop-value : goal.invariant-loop-value
invariant-loop-value l = AreCounts l.self (take l.value-index l.values) l.counts.items
