use Rattle.std.proofs.Common.{◌≡◌, ◌+◌, ◌-◌, ◌≤◌, List, All, map, drop, length}
use Rattle.dx_macros.specs.Expansion as plain
use Rattle.dx_graph.specs.Graph.{Node, MayTake}
use Rattle.dx_graph.specs.Operands.{given_of, GivenFits, before_trees}
use Rattle.dx_graph.proofs.inputs.put_further.Given as goal

abbrev pub invariant-loop-i : goal.invariant-loop-i
invariant-loop-i l = record {
  count : length l.inputs ≡ length l.initial.inputs + l.i;
  within : l.i ≤ l.more;
  trees : (nodes : List Node) → before_trees nodes l.inputs (plain.further (l.more - l.i) (map (given_of nodes) (drop l.i l.given)))
      ≡ before_trees nodes l.initial.inputs (plain.further l.more (map (given_of nodes) l.given));
  fits : (nodes : List Node) → All (GivenFits nodes) l.given → All (MayTake nodes (length nodes)) l.initial.inputs → All (MayTake nodes (length nodes)) l.inputs;
}
