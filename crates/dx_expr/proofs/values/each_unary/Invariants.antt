use Rattle.std.proofs.Common.{◌≡◌, drop}
use Rattle.dx_expr.specs.Value.{each, unary_value}
use Rattle.dx_expr.specs.Evaluated.{behind}
use Rattle.dx_expr.proofs.values.each_unary.Given as goal

abbrev pub invariant-loop-v : goal.invariant-loop-v
invariant-loop-v l = behind l.found (each (unary_value l.operator) (drop l.v-index l.vs)) ≡ each (unary_value l.operator) l.vs
