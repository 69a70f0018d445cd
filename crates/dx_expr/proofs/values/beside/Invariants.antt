use Rattle.std.proofs.Common.{◌≡◌, ◌-◌}
use Rattle.std.specs.List.{range_with_len}
use Rattle.dx_expr.specs.Value.{each, binary_value, value_at, places, side_by_side}
use Rattle.dx_expr.specs.Evaluated.{behind}
use Rattle.dx_expr.proofs.values.beside.Given as goal

abbrev pub invariant-loop-place : goal.invariant-loop-place
invariant-loop-place l =
    behind l.found (each (λ i. binary_value l.operator (value_at l.xs i) (value_at l.ys i)) (range_with_len l.place (places l.xs l.ys - l.place))) ≡ side_by_side (binary_value l.operator) l.xs l.ys
