use Rattle.std.proofs.Common.{◌≡◌, min, take}
use Rattle.dx_expr_grammar.specs.Tokens.{value_of, beyond}
use Rattle.dx_expr_parser.proofs.lexer.value.Given as goal

abbrev pub invariant-loop-b : goal.invariant-loop-b
invariant-loop-b l = l.n ≡ min (value_of (take l.b-index l.digits)) beyond
