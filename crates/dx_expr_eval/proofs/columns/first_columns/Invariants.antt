use Rattle.std.proofs.Common.{◌≡◌}
use Rattle.std.specs.Prelude.{map}
use Rattle.std.specs.List.{range_with_len}
use Rattle.dx_expr_columns.specs.Columns.{column}
use Rattle.dx_expr_eval.proofs.columns.first_columns.Given as goal

abbrev pub invariant-loop-place : goal.invariant-loop-place
invariant-loop-place g l = l.found ≡ map (λ j. column (g.I.Inputs.given l.inputs).shape j l.e) (range_with_len 0 l.place)
