use Rattle.std.proofs.Common.{◌≡◌, ◌≤◌, [], ◌∷◌, length}
use Rattle.dx_script_grammar.specs.Reading.{numbers}
use Rattle.dx_cursor.proofs.constants.numbers.Given as goal

abbrev pub invariant-each : goal.invariant-each
invariant-each l = record {
  same : numbers (l.fn.first ∷ []) l.fn.cursor ≡ numbers l.found l.cursor;
  short : length l.found ≤ 256;
}

abbrev pub decreases-each : goal.decreases-each
decreases-each l = length l.cursor.tokens
