use Rattle.std.proofs.Common.{◌≡◌, List, map, drop}
use Rattle.dx_macros.specs.Expansion as plain
use Rattle.dx_graph.specs.Graph.{Node}
use Rattle.dx_graph.specs.Operands.{given_of}
use Rattle.dx_graph.proofs.given.given_by_name.Given as goal

abbrev pub invariant-loop-g : goal.invariant-loop-g
invariant-loop-g l = (nodes : List Node) → plain.given_by_name (map (given_of nodes) (drop l.g-index l.given)) l.name ≡ plain.given_by_name (map (given_of nodes) l.given) l.name
