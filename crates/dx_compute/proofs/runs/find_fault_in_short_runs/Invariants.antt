use Rattle.std.proofs.Common.{◌≡◌, ◌≤◌, ◌-◌}
use Rattle.dx_compute_meaning.specs.Arrays.{given}
use Rattle.dx_compute_meaning.specs.Shown.{shown_arrays}
use Rattle.dx_expr_eval.specs.Items.{values_from, faultless}
use Rattle.dx_compute.proofs.runs.find_fault_in_short_runs.Given as goal

abbrev pub invariant-turns : goal.invariant-turns
invariant-turns l = record {
  within : l.first ≤ l.to;
  rest : faultless (values_from (given (shown_arrays l.inputs.arrays.now)) l.e l.first l.to) ≡ faultless (values_from (given (shown_arrays l.inputs.arrays.now)) l.e l.from l.to);
}

abbrev pub decreases-turns : goal.decreases-turns
decreases-turns l = l.to - l.first
