use Rattle.std.proofs.Common.{◌≡◌, length, take, arith}
use Rattle.std.proofs.lemmas.Grind.{common_steps}
use Rattle.dx_expr.specs.Value.{binary_value}
use Rattle.dx_expr_blocks.specs.Block.{up_to, beside, run_of}
use Rattle.dx_expr_blocks.proofs.Looping.{steps_beside}
use Rattle.dx_expr_blocks.proofs.binary.on_both.Goals as goal

pub returns : goal.returns
returns c =
    let h = binary_value c.args.operator in
    let left = c.args.left.values.items in
    let right = c.args.right.values.items in
    let s : c.truncate.new.self.items ≡ take (length right) left = first_of (cc, grind (arith, common_steps)) in
    let b = steps_beside h left right in
    let e : up_to (beside h left right) ≡ run_of c.operate-fault.new.left.items c.operate-fault.result = first_of (cc, grind (arith, common_steps)) in
    rw e (grind (arith, common_steps))
