use Rattle.std.proofs.Common.{◌≡◌, length}
use Rattle.dx_expr_grammar.specs.Tokens.{first_of_signs}
use Rattle.dx_expr_parser.proofs.lexer.first_of.Given as goal

abbrev pub invariant-each : goal.invariant-each
invariant-each l = first_of_signs l.rest l.text ≡ first_of_signs l.fn.signs l.fn.text

abbrev pub decreases-each : goal.decreases-each
decreases-each l = length l.rest
