use Rattle.std.proofs.Common.{rules, arith, ◌∙◌}
use Rattle.std.proofs.lemmas.Grind.{common_steps}
use Rattle.dx_script_laws.proofs.Loops.{numbers_turn, number_less}
use Rattle.dx_cursor.proofs.constants.numbers.Goals as goal

pub returns-in_err-n : goal.returns-in_err-n
returns-in_err-n c =
    let e = c.each.invariant.same ∙ numbers_turn c.each.found c.each.cursor in
    first_of (search rules, grind (arith, common_steps))

pub each-smaller : goal.each-smaller
each-smaller c = number_less c.each.found c.each.cursor c.in_ok-n.n c.number.new.cursor c.in_ok-n.ensures.reads

pub each-preserved : goal.each-preserved
each-preserved c =
    let e = c.each.invariant.same ∙ numbers_turn c.each.found c.each.cursor in
    first_of (search rules, grind (arith, common_steps))

pub returns : goal.returns
returns c =
    let e = c.each.invariant.same ∙ numbers_turn c.each.found c.each.cursor in
    first_of (search rules, grind (arith, common_steps))
