use Rattle.std.proofs.Common.{◌≡◌, length}
use Rattle.dx_script_grammar.specs.Reading.{more_attributes}
use Rattle.dx_calls.proofs.calls.more_attributes.Given as goal

abbrev pub invariant-each : goal.invariant-each
invariant-each l = more_attributes l.fn.first l.fn.cursor ≡ more_attributes l.cache l.cursor

abbrev pub decreases-each : goal.decreases-each
decreases-each l = length l.cursor.tokens
