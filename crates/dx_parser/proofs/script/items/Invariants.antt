use Rattle.std.proofs.Common.{◌≡◌, [], length}
use Rattle.dx_script_grammar.specs.Reading.{items}
use Rattle.dx_parser.proofs.script.items.Given as goal

abbrev pub invariant-each : goal.invariant-each
invariant-each l = items [] l.fn.cursor ≡ items l.found l.cursor

abbrev pub decreases-each : goal.decreases-each
decreases-each l = length l.cursor.tokens
