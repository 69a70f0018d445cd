use Rattle.std.proofs.Common.{◌-◌, arith}
use Rattle.dx_expr_blocks.proofs.Ranges.{below_span}
use Rattle.dx_expr_blocks.proofs.eval.evaluate_range.Goals as goal

pub evaluate-requires-clause-within : goal.evaluate-requires-clause-within
evaluate-requires-clause-within g c = below_span (g.I.Inputs.items c.args.inputs.now) c.args.from (c.args.to - c.args.from) (λ p. omega (arith, c.requires.within))
