use Rattle.std.proofs.Common.{rules, arith, ◌∙◌}
use Rattle.std.proofs.lemmas.Grind.{common_steps}
use Rattle.dx_script_laws.proofs.Loops.{items_turn, item_less}
use Rattle.dx_parser.proofs.script.items.Goals as goal

pub returns-in_err-item : goal.returns-in_err-item
returns-in_err-item c =
    let e = c.each.invariant ∙ items_turn c.each.found c.each.cursor in
    first_of (search rules, grind (arith, common_steps))

pub each-smaller : goal.each-smaller
each-smaller c = item_less c.each.cursor c.in_ok-item.item c.item.new.cursor c.in_ok-item.ensures

pub each-preserved : goal.each-preserved
each-preserved c =
    let e = c.each.invariant ∙ items_turn c.each.found c.each.cursor in
    first_of (search rules, grind (arith, common_steps))

pub returns : goal.returns
returns c =
    let e = c.each.invariant ∙ items_turn c.each.found c.each.cursor in
    first_of (search rules, grind (arith, common_steps))
