use Rattle.std.proofs.Common.{◌≡◌, ◌≤◌, ◌-◌, length}
use Rattle.std.specs.Prelude.{map}
use Rattle.std.specs.List.{range_with_len}
use Rattle.dx_expr.specs.Value.{joined, value_of}
use Rattle.dx_expr.specs.Evaluated.{behind}
use Rattle.dx_expr_eval.specs.Items.{all_values}
use Rattle.dx_expr_eval.proofs.numbers.evaluate_numbers.Given as goal

abbrev pub invariant-turns : goal.invariant-turns
invariant-turns g l =
    let inputs = g.I.Inputs.given l.inputs in
    record {
      within : l.from ≤ l.items;
      rest : behind l.found.items (joined (map (λ item. value_of inputs item l.e) (range_with_len l.from (l.items - l.from)))) ≡ all_values inputs l.e l.items;
      count : length l.found.items ≡ l.from;
    }

abbrev pub decreases-turns : goal.decreases-turns
decreases-turns g l = l.items - l.from
