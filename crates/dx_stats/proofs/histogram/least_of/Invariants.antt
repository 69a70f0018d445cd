use Rattle.std.proofs.Common.{◌≡◌, take, fold, pos}
use Rattle.std.specs.Int.{int_min}
use Rattle.dx_stats.proofs.histogram.least_of.Given as goal

abbrev pub invariant-loop-value : goal.invariant-loop-value
invariant-loop-value l = l.least ≡ fold int_min (pos 9223372036854775807) (take l.value-index l.values)
