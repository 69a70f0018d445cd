use Rattle.std.proofs.Common.{◌≡◌, ◌-◌}
use Rattle.std.specs.List.{range_with_len}
use Rattle.dx_expr.specs.Value.{each, checked, size, input_values}
use Rattle.dx_expr.specs.Evaluated.{behind}
use Rattle.dx_expr.proofs.values.input_values.Given as goal

abbrev pub invariant-loop-place : goal.invariant-loop-place
invariant-loop-place g l =
    let inputs = g.I.Inputs.given l.inputs in
    behind l.found (each (λ place. checked (inputs.value l.k l.item place)) (range_with_len l.place (size (inputs.shape l.k) - l.place))) ≡ input_values inputs l.item l.k
