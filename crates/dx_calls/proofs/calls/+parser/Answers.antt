use Rattle.std.proofs.Common.{rules, arith, ◌∙◌}
use Rattle.std.proofs.lemmas.Grind.{common_steps}
use Rattle.dx_ast.specs.Values.{ends_named}
use Rattle.dx_script_laws.proofs.Loops as loops
use Rattle.dx_calls.proofs.calls.+parser.Goals as goal

pub more_args-each-init : goal.more_args-each-init
unfolding ends_named
more_args-each-init t c = first_of (search rules, grind (arith, common_steps))

pub more_args-returns-in_err-next : goal.more_args-returns-in_err-next
more_args-returns-in_err-next t c =
    let f = c.each.invariant.flag in
    let e = rw f at (c.each.invariant.same ∙ loops.args_turn c.args.calls c.each.found c.each.cursor) in
    first_of (search rules, grind (arith, common_steps))

pub more_args-each-smaller : goal.more_args-each-smaller
more_args-each-smaller t c = loops.arg_less c.args.calls c.each.named c.each.cursor c.in_ok-next.next c.next_arg.new.cursor c.in_ok-next.ensures

pub more_args-each-preserved : goal.more_args-each-preserved
more_args-each-preserved t c =
    let f = c.each.invariant.flag in
    let e = rw f at (c.each.invariant.same ∙ loops.args_turn c.args.calls c.each.found c.each.cursor) in
    let g = loops.ends_named-snoc c.each.found c.in_ok-next.next in
    first_of (search rules, grind (arith, common_steps))

pub more_args-returns : goal.more_args-returns
more_args-returns t c =
    let e = c.each.invariant.same ∙ loops.args_turn c.args.calls c.each.found c.each.cursor in
    first_of (search rules, grind (arith, common_steps))
