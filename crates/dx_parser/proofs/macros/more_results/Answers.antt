use Rattle.std.proofs.Common.{rules, arith, ◌∙◌}
use Rattle.std.proofs.lemmas.Grind.{common_steps}
use Rattle.dx_script_laws.proofs.Loops.{results_turn, result_less}
use Rattle.dx_parser.proofs.macros.more_results.Goals as goal

pub returns-in_err-next : goal.returns-in_err-next
returns-in_err-next c =
    let e = c.each.invariant ∙ results_turn c.each.found c.each.cursor in
    first_of (search rules, grind (arith, common_steps))

pub each-smaller : goal.each-smaller
each-smaller c = result_less c.each.found c.each.cursor c.in_ok-next.next c.next_result.new.cursor c.in_ok-next.ensures

pub each-preserved : goal.each-preserved
each-preserved c =
    let e = c.each.invariant ∙ results_turn c.each.found c.each.cursor in
    first_of (search rules, grind (arith, common_steps))

pub returns : goal.returns
returns c =
    let e = c.each.invariant ∙ results_turn c.each.found c.each.cursor in
    first_of (search rules, grind (arith, common_steps))
