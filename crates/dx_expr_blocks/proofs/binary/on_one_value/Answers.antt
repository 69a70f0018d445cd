use Rattle.std.proofs.Common.{◌≡◌, length, replicate, rules, arith, w32, FitsSigned}
use Rattle.std.proofs.lemmas.Int.{to_z-of_z}
use Rattle.std.proofs.lemmas.Grind.{common_steps}
use Rattle.dx_expr.specs.Value.{binary_value}
use Rattle.dx_expr_blocks.specs.Block.{up_to, beside, run_of}
use Rattle.dx_expr_blocks.proofs.Looping.{steps_same}
use Rattle.dx_expr_blocks.proofs.binary.on_one_value.Goals as goal

pub returns : goal.returns
returns c =
    let h = binary_value c.args.operator in
    let left = c.args.left.values.items in
    let b = steps_same h c.args.value left in
    let f : FitsSigned w32 c.args.value = search rules in
    let v = to_z-of_z w32 c.args.value f in
    let e : up_to (beside h left (replicate (length left) c.args.value)) ≡ run_of c.operate-fault.new.left.items c.operate-fault.result = first_of (cc, grind (arith, common_steps)) in
    rw e (grind (arith, common_steps))
