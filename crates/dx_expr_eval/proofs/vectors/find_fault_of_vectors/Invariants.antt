use Rattle.std.proofs.Common.{◌≡◌, ◌-◌}
use Rattle.std.specs.Prelude.{map}
use Rattle.std.specs.List.{range_with_len}
use Rattle.dx_expr.specs.Value.{joined, value_of}
use Rattle.dx_expr_eval.specs.Items.{values_from, faultless}
use Rattle.dx_expr_eval.proofs.vectors.find_fault_of_vectors.Given as goal

abbrev pub invariant-loop-item : goal.invariant-loop-item
invariant-loop-item g l =
    let inputs = g.I.Inputs.given l.inputs in
    faultless (joined (map (λ item. value_of inputs item l.e) (range_with_len l.item (l.to - l.item)))) ≡ faultless (values_from inputs l.e l.from l.to)
