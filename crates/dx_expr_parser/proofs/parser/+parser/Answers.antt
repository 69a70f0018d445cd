use Rattle.std.proofs.Common.{rules, arith, ◌∙◌}
use Rattle.std.proofs.lemmas.Grind.{common_steps}
use Rattle.dx_expr_grammar.specs.Reading.{chain}
use Rattle.dx_expr_laws.proofs.Loops as loops
use Rattle.dx_expr_parser.proofs.parser.+parser.Goals as goal

pub chain-returns-in_err-found-clause-reads : goal.chain-returns-in_err-found-clause-reads
unfolding chain
chain-returns-in_err-found-clause-reads t c = first_of (search rules, grind (arith, common_steps))

pub chain-each-init : goal.chain-each-init
unfolding chain
chain-each-init t c = first_of (search rules, grind (arith, common_steps))

pub chain-returns-in_err-operator-clause-reads : goal.chain-returns-in_err-operator-clause-reads
chain-returns-in_err-operator-clause-reads t c =
    let e = c.each.invariant.same ∙ loops.more_operands c.args.brackets c.args.level c.each.found c.each.cursor in
    first_of (search rules, grind (arith, common_steps))

pub chain-each-preserved : goal.chain-each-preserved
chain-each-preserved t c =
    let e = c.each.invariant.same ∙ loops.more_operands c.args.brackets c.args.level c.each.found c.each.cursor in
    first_of (search rules, grind (arith, common_steps))

pub chain-returns-clause-reads : goal.chain-returns-clause-reads
chain-returns-clause-reads t c =
    let e = c.each.invariant.same ∙ loops.more_operands c.args.brackets c.args.level c.each.found c.each.cursor in
    first_of (search rules, grind (arith, common_steps))

pub next_parts-returns-in_err-next-clause-reads : goal.next_parts-returns-in_err-next-clause-reads
next_parts-returns-in_err-next-clause-reads t c =
    let e = c.each.invariant.same ∙ loops.more_vector c.args.brackets c.each.found c.each.cursor in
    first_of (search rules, grind (arith, common_steps))

pub next_parts-each-preserved : goal.next_parts-each-preserved
next_parts-each-preserved t c =
    let e = c.each.invariant.same ∙ loops.more_vector c.args.brackets c.each.found c.each.cursor in
    first_of (search rules, grind (arith, common_steps))

pub next_parts-returns-clause-reads : goal.next_parts-returns-clause-reads
next_parts-returns-clause-reads t c =
    let e = c.each.invariant.same ∙ loops.more_vector c.args.brackets c.each.found c.each.cursor in
    first_of (search rules, grind (arith, common_steps))
