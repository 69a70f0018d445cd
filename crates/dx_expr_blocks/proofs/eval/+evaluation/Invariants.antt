use Rattle.std.proofs.Common.{◌+◌, ◌*◌}
use Rattle.dx_expr_grammar.specs.declared.tree.Expression.TheVariants as expression
use Rattle.dx_expr.proofs.Nodes.{nodes}
use Rattle.dx_expr_blocks.specs.Block.{looking_where}
use Rattle.dx_expr_blocks.proofs.eval.+evaluation.Given as goal

abbrev pub decreases-evaluate : goal.decreases-evaluate
decreases-evaluate g l = 2 * nodes l.e.now + 1

abbrev pub decreases-operator_run : goal.decreases-operator_run
decreases-operator_run g l = 2 * nodes (expression.Binary l.operator l.a.now l.b.now)

abbrev pub decreases-decision_run : goal.decreases-decision_run
decreases-decision_run g l = 2 * nodes (expression.Binary (looking_where l.wanted) l.a.now l.b.now)

abbrev pub decreases-choice_run : goal.decreases-choice_run
decreases-choice_run g l = 2 * nodes (expression.Choice l.condition.now l.a.now l.b.now)
