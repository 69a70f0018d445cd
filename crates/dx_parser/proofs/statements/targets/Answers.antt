use Rattle.std.proofs.Common.{rules, arith, ◌∙◌}
use Rattle.std.proofs.lemmas.Grind.{common_steps}
use Rattle.dx_script_laws.proofs.Loops.{targets_turn, target_less}
use Rattle.dx_parser.proofs.statements.targets.Goals as goal

pub returns-in_err-name : goal.returns-in_err-name
returns-in_err-name c =
    let e = c.each.invariant ∙ targets_turn c.each.found c.each.cursor in
    first_of (search rules, grind (arith, common_steps))

pub each-smaller : goal.each-smaller
each-smaller c = target_less c.each.cursor c.in_ok-name.name c.target.new.cursor c.in_ok-name.ensures

pub each-preserved : goal.each-preserved
each-preserved c =
    let e = c.each.invariant ∙ targets_turn c.each.found c.each.cursor in
    first_of (search rules, grind (arith, common_steps))

pub returns : goal.returns
returns c =
    let e = c.each.invariant ∙ targets_turn c.each.found c.each.cursor in
    first_of (search rules, grind (arith, common_steps))
