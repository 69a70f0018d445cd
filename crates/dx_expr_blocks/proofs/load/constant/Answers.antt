use Rattle.std.proofs.Common.{rules}
use Rattle.dx_expr.specs.Value.{checked}
use Rattle.dx_expr_blocks.proofs.Laws.{constant_values}
use Rattle.dx_expr_blocks.proofs.load.constant.Goals as goal

pub returns-in_ok-values-in-Ok : goal.returns-in_ok-values-in-Ok
returns-in_ok-values-in-Ok c =
    constant_values c.args.count (checked c.args.value) c.in-Ok.v c.in_ok-values-in-Ok.field-0.items (first_of (cc, search rules)) (first_of (cc, search rules))
