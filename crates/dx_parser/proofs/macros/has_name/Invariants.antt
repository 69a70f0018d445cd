use Rattle.std.proofs.Common.{◌≡◌, length}
use Rattle.dx_ast.specs.Values.{has_name}
use Rattle.dx_parser.proofs.macros.has_name.Given as goal

abbrev pub invariant-each : goal.invariant-each
invariant-each l = has_name l.name l.rest ≡ has_name l.name l.names

abbrev pub decreases-each : goal.decreases-each
decreases-each l = length l.rest
