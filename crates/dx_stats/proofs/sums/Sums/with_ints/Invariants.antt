use Rattle.std.proofs.Common.{take}
use Rattle.dx_stats.specs.Sums.{Adds, AreHeld}
use Rattle.dx_stats.proofs.sums.Sums.with_ints.Given as goal

-- so many numbers are added
abbrev pub invariant-loop-value : goal.invariant-loop-value
invariant-loop-value l = Adds l.fn.self (take l.value-index l.values) l.sums × AreHeld l.sums
