use Rattle.std.proofs.Common.{arith}
use Rattle.dx_expr_blocks.proofs.Near.{sum_near}
use Rattle.dx_expr_blocks.proofs.sure.AddSure.is_sure.Goals as goal

pub returns : goal.returns
returns c = λ sure a b near far. sum_near a b c.args.left c.args.right near far (grind (arith, sure))
