use Rattle.std.proofs.Common.{◌≡◌, [], ◌∷◌, length}
use Rattle.dx_script_grammar.specs.Reading.{targets}
use Rattle.dx_parser.proofs.statements.targets.Given as goal

abbrev pub invariant-each : goal.invariant-each
invariant-each l = targets (l.fn.first ∷ l.fn.second ∷ []) l.fn.cursor ≡ targets l.found l.cursor

abbrev pub decreases-each : goal.decreases-each
decreases-each l = length l.cursor.tokens
