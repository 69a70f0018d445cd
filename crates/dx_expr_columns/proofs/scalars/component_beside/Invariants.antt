use Rattle.std.proofs.Common.{◌≡◌}
use Rattle.dx_expr_columns.specs.Scalars as spec
use Rattle.dx_expr_columns.proofs.scalars.component_beside.Given as goal

abbrev pub invariant-loop-other : goal.invariant-loop-other
invariant-loop-other g l = l.found ≡ spec.component_beside (g.I.Inputs.given l.inputs).shape l.other l.a l.place
