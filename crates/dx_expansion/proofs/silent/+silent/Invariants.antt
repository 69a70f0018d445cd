use Rattle.std.proofs.Common.{◌+◌, ◌*◌, [], drop}
use Rattle.dx_ast.specs.Plain.{plain_expr, plain_call, plain_args, plain_stmt, plain_stmts}
use Rattle.dx_macros.specs.Weight.{expr_weight, call_weight, args_weight, statement_weight, body_weight}
use Rattle.dx_texts.specs.Expanding.{dictionary_in}
use Rattle.dx_expansion.specs.Silence.{AreSilentArgs, IsSilentBody}
use Rattle.dx_texts.proofs.Measures.{cap}
use Rattle.dx_expansion.proofs.silent.+silent.Given as goal

abbrev pub decreases-is_silent_expr : goal.decreases-is_silent_expr
decreases-is_silent_expr l = l.left * cap l.w.now + (3 * expr_weight (plain_expr l.e.now) + 1)

abbrev pub decreases-is_silent_call : goal.decreases-is_silent_call
decreases-is_silent_call l = l.left * cap l.w.now + 3 * call_weight (plain_call l.c.now)

abbrev pub decreases-are_silent_args : goal.decreases-are_silent_args
decreases-are_silent_args l = l.left * cap l.w.now + (3 * args_weight (plain_args l.args.now) + 1)

abbrev pub decreases-is_silent_callee : goal.decreases-is_silent_callee
decreases-is_silent_callee l = l.left * cap l.w.now + 1

abbrev pub decreases-is_silent_body : goal.decreases-is_silent_body
decreases-is_silent_body l = l.left * cap l.w.now + (3 * body_weight [] (plain_stmts l.body.now) + 2)

abbrev pub decreases-is_silent_statement : goal.decreases-is_silent_statement
decreases-is_silent_statement l = l.left * cap l.w.now + (3 * statement_weight (plain_stmt l.s.now) + 2)

abbrev pub invariant-are_silent_args-loop-arg : goal.invariant-are_silent_args-loop-arg
invariant-are_silent_args-loop-arg l = AreSilentArgs (dictionary_in l.w).macros l.left (plain_args (drop l.arg-index l.args)) → AreSilentArgs (dictionary_in l.w).macros l.left (plain_args l.args)

abbrev pub invariant-is_silent_body-loop-s : goal.invariant-is_silent_body-loop-s
invariant-is_silent_body-loop-s l = IsSilentBody (dictionary_in l.w).macros l.left (plain_stmts (drop l.s-index l.body)) → IsSilentBody (dictionary_in l.w).macros l.left (plain_stmts l.body)
