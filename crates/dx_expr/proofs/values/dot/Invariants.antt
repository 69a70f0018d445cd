use Rattle.std.proofs.Common.{◌≡◌, ◌-◌, length, pos}
use Rattle.std.specs.List.{range_with_len}
use Rattle.dx_expr.specs.Value.{dot_from}
use Rattle.dx_expr.proofs.values.dot.Given as goal

abbrev pub invariant-loop-place : goal.invariant-loop-place
invariant-loop-place l = dot_from l.xs l.ys l.sum (range_with_len l.place (length l.xs - l.place)) ≡ dot_from l.xs l.ys (pos 0) (range_with_len 0 (length l.xs))
