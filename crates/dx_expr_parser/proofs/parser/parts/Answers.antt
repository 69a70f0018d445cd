use Rattle.std.proofs.Common.{rules, arith, ◌∙◌}
use Rattle.std.proofs.lemmas.Grind.{common_steps}
use Rattle.dx_expr_laws.proofs.Loops as loops
use Rattle.dx_expr_parser.proofs.parser.parts.Goals as goal

pub returns-in_err-k-clause-reads : goal.returns-in_err-k-clause-reads
returns-in_err-k-clause-reads c =
    let e = c.each.invariant.same ∙ loops.more_parts c.each.found c.each.cursor in
    first_of (search rules, grind (arith, common_steps))

pub each-preserved : goal.each-preserved
each-preserved c =
    let e = c.each.invariant.same ∙ loops.more_parts c.each.found c.each.cursor in
    first_of (search rules, grind (arith, common_steps))

pub returns-clause-reads : goal.returns-clause-reads
returns-clause-reads c =
    let e = c.each.invariant.same ∙ loops.more_parts c.each.found c.each.cursor in
    first_of (search rules, grind (arith, common_steps))
