use Rattle.std.proofs.Common.{◌≡◌, ◌+◌, ◌<◌, ◌^◌, length}
use Rattle.dx_expr_grammar.specs.Tokens.{tokens_from}
use Rattle.dx_expr_parser.proofs.lexer.unblanked.Given as goal

abbrev pub invariant-blanks : goal.invariant-blanks
invariant-blanks l = record {
  same : tokens_from 0 l.offset l.rest ≡ tokens_from 0 l.fn.at l.fn.text;
  room : l.offset + length l.rest < 2 ^ 63;
}

abbrev pub decreases-blanks : goal.decreases-blanks
decreases-blanks l = length l.rest
