use Rattle.std.proofs.Common.{◌≡◌, ◌≤◌, length}
use Rattle.dx_expr_grammar.specs.Reading.{parts}
use Rattle.dx_expr_parser.proofs.parser.parts.Given as goal

abbrev pub invariant-each : goal.invariant-each
invariant-each l = record {
  same : parts l.fn.first l.fn.cursor ≡ parts l.found l.cursor;
  onward : length l.cursor.tokens ≤ length l.fn.cursor.tokens;
}

abbrev pub decreases-each : goal.decreases-each
decreases-each l = length l.cursor.tokens
