use Rattle.std.proofs.Common.{◌≡◌, ◌-◌, ◌*◌, length}
use Rattle.std.specs.Prelude.{map, Some}
use Rattle.std.specs.List.{range_with_len}
use Rattle.dx_expr.specs.Shape.{Shape, shape_of}
use Rattle.dx_expr.specs.Value.{joined, value_of, size}
use Rattle.dx_expr.specs.Evaluated.{behind}
use Rattle.dx_expr_eval.specs.Items.{all_values}
use Rattle.dx_expr_eval.proofs.vectors.evaluate_vectors.Given as goal

abbrev pub invariant-loop-item : goal.invariant-loop-item
invariant-loop-item g l =
    let inputs = g.I.Inputs.given l.inputs in
    record {
      rest : behind l.found.items (joined (map (λ item. value_of inputs item l.e) (range_with_len l.item (l.items - l.item)))) ≡ all_values inputs l.e l.items;
      count : (s : Shape) → shape_of inputs.shape l.e ≡ Some s → length l.found.items ≡ l.item * size s;
    }
