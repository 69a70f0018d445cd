use Rattle.std.proofs.Common.{◌≡◌}
use Rattle.dx_expr_columns.specs.Scalars as spec
use Rattle.dx_expr_columns.proofs.scalars.sum_of_products.Given as goal

abbrev pub invariant-loop-place : goal.invariant-loop-place
invariant-loop-place g l = l.sum ≡ spec.sum_of_products (g.I.Inputs.given l.inputs).shape l.place l.a l.b
