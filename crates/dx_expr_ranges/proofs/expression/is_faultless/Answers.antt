use Rattle.std.proofs.Common.{sym, ap, ◌∙◌}
use Rattle.std.specs.Prelude.{is_some}
use Rattle.dx_expr_ranges.proofs.Laws.{known_faultless}
use Rattle.dx_expr_ranges.proofs.expression.is_faultless.Goals as goal

pub returns-clause-faultless : goal.returns-clause-faultless
returns-clause-faultless c = λ inputs from to within yes. known_faultless inputs from to c.args.ranges.now c.args.e.now within (ap is_some (sym c.range_of.ensures) ∙ sym c.is_some.ensures ∙ yes)
