use Rattle.std.proofs.Common.{◌≡◌, [], ◌∷◌, length}
use Rattle.dx_script_grammar.specs.Reading.{more_results}
use Rattle.dx_parser.proofs.macros.more_results.Given as goal

abbrev pub invariant-each : goal.invariant-each
invariant-each l = more_results (l.fn.first ∷ []) l.fn.cursor ≡ more_results l.found l.cursor

abbrev pub decreases-each : goal.decreases-each
decreases-each l = length l.cursor.tokens
