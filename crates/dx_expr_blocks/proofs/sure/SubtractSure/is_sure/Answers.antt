use Rattle.std.proofs.Common.{arith}
use Rattle.dx_expr_blocks.proofs.Near.{difference_near}
use Rattle.dx_expr_blocks.proofs.sure.SubtractSure.is_sure.Goals as goal

pub returns : goal.returns
returns c = λ sure a b near far. difference_near a b c.args.left c.args.right near far (grind (arith, sure))
