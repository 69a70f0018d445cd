use Rattle.std.proofs.Common.{◌≡◌, ◌+◌, ◌*◌, drop}
use Rattle.std.specs.Prelude.{map}
use Rattle.dx_expr_grammar.specs.declared.tree.Expression.TheVariants as expression
use Rattle.dx_expr.specs.Value.{joined, value_of}
use Rattle.dx_expr.specs.Evaluated.{behind}
use Rattle.dx_expr.proofs.Nodes.{nodes, all_nodes}
use Rattle.dx_expr.proofs.eval.+eval.Given as goal

abbrev pub decreases-single_value : goal.decreases-single_value
decreases-single_value g l = 3 * nodes l.e.now + 1

abbrev pub decreases-operator_value : goal.decreases-operator_value
decreases-operator_value g l = 3 * nodes (expression.Binary l.operator l.a.now l.b.now)

abbrev pub decreases-all_values : goal.decreases-all_values
decreases-all_values g l = 3 * nodes l.e.now + 2

abbrev pub decreases-vector_values : goal.decreases-vector_values
decreases-vector_values g l = 3 * all_nodes l.parts.now + 2

abbrev pub invariant-vector_values-loop-part : goal.invariant-vector_values-loop-part
invariant-vector_values-loop-part g l =
    let inputs = g.I.Inputs.given l.inputs in
    behind l.found (joined (map (value_of inputs l.item) (drop l.part-index l.parts))) ≡ joined (map (value_of inputs l.item) l.parts)
