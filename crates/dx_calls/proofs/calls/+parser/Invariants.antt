use Rattle.std.proofs.Common.{◌≡◌, ◌+◌, ◌*◌, [], ◌∷◌, length}
use Rattle.dx_script_grammar.specs.Reading.{more_args, expression, primary}
use Rattle.dx_ast.specs.Values.{ends_named}
use Rattle.dx_calls.proofs.calls.+parser.Given as goal

abbrev pub decreases-call_after : goal.decreases-call_after
decreases-call_after l = 10 * l.calls + 0

abbrev pub decreases-primary : goal.decreases-primary
decreases-primary l = 10 * l.calls + 1

abbrev pub decreases-expression : goal.decreases-expression
decreases-expression l = 10 * l.calls + 2

abbrev pub decreases-named_arg : goal.decreases-named_arg
decreases-named_arg l = 10 * l.calls + 3

abbrev pub decreases-arg : goal.decreases-arg
decreases-arg l = 10 * l.calls + 4

abbrev pub decreases-next_arg : goal.decreases-next_arg
decreases-next_arg l = 10 * l.calls + 5

abbrev pub decreases-more_args : goal.decreases-more_args
decreases-more_args l = 10 * l.calls + 6

abbrev pub decreases-some_args : goal.decreases-some_args
decreases-some_args l = 10 * l.calls + 7

abbrev pub decreases-args : goal.decreases-args
decreases-args l = 10 * l.calls + 8

abbrev pub invariant-more_args-each : goal.invariant-more_args-each
invariant-more_args-each l = record {
  same : more_args (expression l.calls) (primary l.calls) (l.fn.first ∷ []) l.fn.cursor ≡ more_args (expression l.calls) (primary l.calls) l.found l.cursor;
  flag : ends_named l.found ≡ l.named;
}

abbrev pub decreases-more_args-each : goal.decreases-more_args-each
decreases-more_args-each l = length l.cursor.tokens
