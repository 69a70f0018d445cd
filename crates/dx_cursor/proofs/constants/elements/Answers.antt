use Rattle.std.proofs.Common.{rules, arith, ◌∙◌}
use Rattle.std.proofs.lemmas.Grind.{common_steps}
use Rattle.dx_script_laws.proofs.Loops.{elements_turn, element_less}
use Rattle.dx_cursor.proofs.constants.elements.Goals as goal

pub returns-in_err-e : goal.returns-in_err-e
returns-in_err-e c =
    let e = c.each.invariant.same ∙ elements_turn (c.each.count, c.each.list) c.each.cursor in
    first_of (search rules, grind (arith, common_steps))

pub each-smaller : goal.each-smaller
each-smaller c = element_less (c.each.count, c.each.list) c.each.cursor c.in_ok-e.e c.next_element.new.cursor c.in_ok-e.ensures.reads

pub each-preserved : goal.each-preserved
each-preserved c =
    let e = c.each.invariant.same ∙ elements_turn (c.each.count, c.each.list) c.each.cursor in
    first_of (search rules, grind (arith, common_steps))

pub returns : goal.returns
returns c =
    let e = c.each.invariant.same ∙ elements_turn (c.each.count, c.each.list) c.each.cursor in
    first_of (search rules, grind (arith, common_steps))
