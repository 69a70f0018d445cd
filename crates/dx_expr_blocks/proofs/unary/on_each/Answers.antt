use Rattle.std.proofs.Common.{◌≡◌, arith, ap, sym, ◌∙◌}
use Rattle.std.specs.Prelude.{map}
use Rattle.std.proofs.lemmas.Grind.{common_steps}
use Rattle.dx_expr.specs.Value.{unary_value}
use Rattle.dx_expr_blocks.specs.Block.{up_to, run_of}
use Rattle.dx_expr_blocks.proofs.Looping.{steps_each}
use Rattle.dx_expr_blocks.proofs.unary.on_each.Goals as goal

pub returns : goal.returns
returns c =
    let e : up_to (map (unary_value c.args.operator) c.args.operand.values.items) ≡ run_of c.filled-found.result.values.items c.filled-found.result.fault =
    ap up_to (sym (steps_each (unary_value c.args.operator) c.args.operand.values.items)) ∙ c.filled-found.ensures in
    rw e (grind (arith, common_steps))
