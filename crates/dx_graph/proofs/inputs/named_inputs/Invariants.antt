use Rattle.std.proofs.Common.{◌≡◌, ℕ, List, All, map, drop, length}
use Rattle.dx_macros.specs.Expansion as plain
use Rattle.dx_graph.specs.Graph.{Node, MayTake}
use Rattle.dx_graph.specs.Operands.{given_of, GivenFits, before_trees}
use Rattle.dx_graph.proofs.inputs.named_inputs.Given as goal

abbrev pub invariant-loop-i : goal.invariant-loop-i
invariant-loop-i l = record {
  count : length l.inputs ≡ l.i;
  trees : (nodes : List Node) (more : ℕ) → before_trees nodes l.inputs (plain.inputs (map (λ p. p.now) (drop l.i l.names)) more l.i (map (given_of nodes) l.given))
      ≡ plain.inputs (map (λ p. p.now) l.names) more 0 (map (given_of nodes) l.given);
  fits : (nodes : List Node) → All (GivenFits nodes) l.given → All (MayTake nodes (length nodes)) l.inputs;
}
