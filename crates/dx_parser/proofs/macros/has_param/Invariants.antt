use Rattle.std.proofs.Common.{◌≡◌, length, map}
use Rattle.dx_ast.specs.Values.{has_name, param_name}
use Rattle.dx_parser.proofs.macros.has_param.Given as goal

abbrev pub invariant-each : goal.invariant-each
invariant-each l = has_name l.name (map param_name l.rest) ≡ has_name l.name (map param_name l.params)

abbrev pub decreases-each : goal.decreases-each
decreases-each l = length l.rest
