use Rattle.std.proofs.Common.{◌≡◌, [], length}
use Rattle.dx_script_grammar.specs.Reading.{body_items}
use Rattle.dx_parser.proofs.macros.body_items.Given as goal

abbrev pub invariant-each : goal.invariant-each
invariant-each l = body_items [] l.fn.cursor ≡ body_items l.found l.cursor

abbrev pub decreases-each : goal.decreases-each
decreases-each l = length l.cursor.tokens
