use Rattle.std.proofs.Common.{◌∙◌, rules, w32}
use Rattle.std.proofs.lemmas.Int.{to_z-of_z}
use Rattle.dx_expr.proofs.Widening.{quotient_of}
use Rattle.dx_expr.proofs.operators.quotient.Goals as goal

pub returns : goal.returns
returns c =
    c.checked.ensures ∙ quotient_of c.args.a c.args.b c.from.result c.from-2.result (c.from.ensures ∙ to_z-of_z w32 c.args.a c.ranges.a) (c.from-2.ensures ∙ to_z-of_z w32 c.args.b c.ranges.b) c.ranges.a c.ranges.b (search rules)
