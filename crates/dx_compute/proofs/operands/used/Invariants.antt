use Rattle.std.proofs.Common.{◌≡◌, ◌-◌, ◌++◌}
use Rattle.std.specs.List.{filter, range_with_len}
use Rattle.dx_expr.specs.Uses.{uses}
use Rattle.dx_compute.proofs.operands.used.Given as goal

abbrev pub invariant-loop-k : goal.invariant-loop-k
invariant-loop-k l = l.found.items ++ filter (λ k. uses k l.e) (range_with_len l.k (21 - l.k)) ≡ filter (λ k. uses k l.e) (range_with_len 0 21)
