use Rattle.std.proofs.Common.{◌≡◌, ◌≤◌, ◌-◌, ◌*◌, length}
use Rattle.dx_expr_eval.specs.Rows.{HaveValues}
use Rattle.dx_expr_eval.proofs.rows.component_rows.Given as goal

abbrev pub invariant-loop-place : goal.invariant-loop-place
invariant-loop-place g l =
    let inputs = g.I.Inputs.given l.inputs in
    record {
      count : l.count ≤ l.to - l.from;
      size : length l.values.items ≡ (l.to - l.from) * length l.columns;
      values : HaveValues inputs l.columns l.place l.from l.count (length l.columns) l.values.items;
    }
