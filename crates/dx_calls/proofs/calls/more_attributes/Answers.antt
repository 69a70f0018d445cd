use Rattle.std.proofs.Common.{rules, arith, ◌∙◌}
use Rattle.std.proofs.lemmas.Grind.{common_steps}
use Rattle.dx_script_laws.proofs.Loops.{attributes_turn, attribute_less}
use Rattle.dx_calls.proofs.calls.more_attributes.Goals as goal

pub returns-in_err-found : goal.returns-in_err-found
returns-in_err-found c =
    let e = c.each.invariant ∙ attributes_turn c.each.cache c.each.cursor in
    first_of (search rules, grind (arith, common_steps))

pub each-smaller : goal.each-smaller
each-smaller c = attribute_less c.each.cursor c.in_ok-found.found c.next_attribute.new.cursor c.in_ok-found.ensures

pub each-preserved : goal.each-preserved
each-preserved c =
    let e = c.each.invariant ∙ attributes_turn c.each.cache c.each.cursor in
    first_of (search rules, grind (arith, common_steps))

pub returns : goal.returns
returns c =
    let e = c.each.invariant ∙ attributes_turn c.each.cache c.each.cursor in
    first_of (search rules, grind (arith, common_steps))
