use Rattle.std.proofs.Common.{◌≡◌, map}
use Rattle.std.specs.List.{range_with_len}
use Rattle.dx_stats.specs.Bins.{border}
use Rattle.dx_stats.proofs.bins.Bins.borders.Given as goal

-- so many borders stand there
abbrev pub invariant-loop-k : goal.invariant-loop-k
invariant-loop-k l = l.borders.items ≡ map (border l.self) (range_with_len 0 l.k)
