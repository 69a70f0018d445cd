use Rattle.std.proofs.Common.{◌≡◌, ◌≤◌, ◌+◌, ◌*◌, ℕ, [], drop}
use Rattle.dx_ast.specs.Limits.{max_walk_calls}
use Rattle.dx_ast.specs.Plain.{plain_expr, plain_call, plain_args, plain_stmt, plain_stmts}
use Rattle.dx_macros.specs.DictionaryView.{dictionary_of}
use Rattle.dx_macros.specs.Weight.{expr_weight, call_weight, args_weight, statement_weight, body_weight}
use Rattle.dx_checked.specs.Own.{ArgsFit, BodyFits}
use Rattle.dx_checked.proofs.Measures.{cap}
use Rattle.dx_checked.proofs.own.+own.Given as goal

abbrev pub decreases-expr_calls : goal.decreases-expr_calls
decreases-expr_calls l = l.left * cap l.d.now + (3 * expr_weight (plain_expr l.e.now) + 1)

abbrev pub decreases-call_calls : goal.decreases-call_calls
decreases-call_calls l = l.left * cap l.d.now + 3 * call_weight (plain_call l.c.now)

abbrev pub decreases-args_calls : goal.decreases-args_calls
decreases-args_calls l = l.left * cap l.d.now + (3 * args_weight (plain_args l.args.now) + 1)

abbrev pub decreases-callee_calls : goal.decreases-callee_calls
decreases-callee_calls l = l.left * cap l.d.now + 1

abbrev pub decreases-body_calls : goal.decreases-body_calls
decreases-body_calls l = l.left * cap l.d.now + (3 * body_weight [] (plain_stmts l.body.now) + 2)

abbrev pub decreases-statement_calls : goal.decreases-statement_calls
decreases-statement_calls l = l.left * cap l.d.now + (3 * statement_weight (plain_stmt l.s.now) + 2)

-- with what the rest has, these are the calls of all arguments
abbrev pub invariant-args_calls-loop-arg : goal.invariant-args_calls-loop-arg
invariant-args_calls-loop-arg l = record {
  bound : l.calls ≤ max_walk_calls;
  so_far : (n : ℕ) → ArgsFit (dictionary_of l.d).macros l.left (plain_args (drop l.arg-index l.args)) n → (own : ℕ) × (l.before + own ≡ l.calls + n) × ArgsFit (dictionary_of l.d).macros l.left (plain_args l.args) own;
}

abbrev pub invariant-body_calls-loop-s : goal.invariant-body_calls-loop-s
invariant-body_calls-loop-s l = record {
  bound : l.calls ≤ max_walk_calls;
  so_far : (n : ℕ) → BodyFits (dictionary_of l.d).macros l.left (plain_stmts (drop l.s-index l.body)) n → (own : ℕ) × (l.before + own ≡ l.calls + n) × BodyFits (dictionary_of l.d).macros l.left (plain_stmts l.body) own;
}
