use Rattle.std.proofs.Common.{◌≡◌, arith, ap, sym, ◌∙◌}
use Rattle.std.specs.Prelude.{map}
use Rattle.std.proofs.lemmas.Grind.{common_steps}
use Rattle.dx_expr_blocks.specs.Block.{decided}
use Rattle.dx_expr_blocks.specs.Block.{up_to, run_of}
use Rattle.dx_expr_blocks.proofs.Looping.{steps_each}
use Rattle.dx_expr_blocks.proofs.unary.decisions.Goals as goal

pub returns : goal.returns
returns c =
    let e : up_to (map decided c.args.operand.values.items) ≡ run_of c.filled-found.result.values.items c.filled-found.result.fault =
    ap up_to (sym (steps_each decided c.args.operand.values.items)) ∙ c.filled-found.ensures in
    rw e (grind (arith, common_steps))
