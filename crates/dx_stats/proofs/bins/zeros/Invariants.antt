use Rattle.std.proofs.Common.{◌≡◌, replicate, pos}
use Rattle.dx_stats.proofs.bins.zeros.Given as goal

abbrev pub invariant-loop-k : goal.invariant-loop-k
invariant-loop-k l = l.zeros.items ≡ replicate l._k (pos 0)
