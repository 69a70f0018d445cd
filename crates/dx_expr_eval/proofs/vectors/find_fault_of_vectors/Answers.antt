use Rattle.std.proofs.Common.{rules, sym, ◌∙◌}
use Rattle.dx_expr.specs.Value.{value_of}
use Rattle.dx_expr_eval.proofs.Joining.{fault_next}
use Rattle.dx_expr_eval.proofs.vectors.find_fault_of_vectors.Goals as goal

pub loop-item-preserved : goal.loop-item-preserved
loop-item-preserved g c =
    let inputs = g.I.Inputs.given c.args.inputs.now in
    sym (fault_next (λ item. value_of inputs item c.args.e.now) c.loop-item.item c.args.to (search rules) _ c.in_ok-item_values.ensures.values) ∙ c.loop-item.invariant
