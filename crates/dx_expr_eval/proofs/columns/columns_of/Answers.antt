use Rattle.std.proofs.Common.{◌<◌, arith}
use Rattle.dx_expr_eval.proofs.InRows.{found_columns}
use Rattle.dx_expr_eval.proofs.columns.columns_of.Goals as goal

pub returns-then-are_read_by_parts : goal.returns-then-are_read_by_parts
returns-then-are_read_by_parts g c =
    let some : 0 < c.width_of-count.result = omega (arith, c.if-count-ne0.true) in
    found_columns (g.I.Inputs.given c.args.inputs.now) c.args.e.now c.width_of-count.result c.first_columns.result some c.width_of-count.ensures.few (c.width_of-count.ensures.shape some) c.first_columns.ensures
