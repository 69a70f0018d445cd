use Rattle.std.proofs.Common.{◌∙◌}
use Rattle.dx_native_fields.proofs.Looking.{lines_at}
use Rattle.dx_native_fields.proofs.walk.lines.Goals as goal

pub returns-in-Some : goal.returns-in-Some
returns-in-Some c = c.body_lines.ensures ∙ lines_at c.args.clauses.now c.args.i c.in-Some.clause.now c.in-Some.ensures
