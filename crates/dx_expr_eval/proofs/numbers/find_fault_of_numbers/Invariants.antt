use Rattle.std.proofs.Common.{◌≡◌, ◌≤◌, ◌-◌}
use Rattle.std.specs.Prelude.{map}
use Rattle.std.specs.List.{range_with_len}
use Rattle.dx_expr.specs.Value.{joined, value_of}
use Rattle.dx_expr_eval.specs.Items.{values_from, faultless}
use Rattle.dx_expr_eval.proofs.numbers.find_fault_of_numbers.Given as goal

abbrev pub invariant-turns : goal.invariant-turns
invariant-turns g l =
    let inputs = g.I.Inputs.given l.inputs in
    record {
      within : l.first ≤ l.to;
      rest : faultless (joined (map (λ item. value_of inputs item l.e) (range_with_len l.first (l.to - l.first)))) ≡ faultless (values_from inputs l.e l.from l.to);
    }

abbrev pub decreases-turns : goal.decreases-turns
decreases-turns g l = l.to - l.first
