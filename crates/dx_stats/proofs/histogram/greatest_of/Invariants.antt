use Rattle.std.proofs.Common.{◌≡◌, take, fold, negsuc}
use Rattle.std.specs.Int.{int_max}
use Rattle.dx_stats.proofs.histogram.greatest_of.Given as goal

abbrev pub invariant-loop-value : goal.invariant-loop-value
invariant-loop-value l = l.greatest ≡ fold int_max (negsuc 9223372036854775807) (take l.value-index l.values)
