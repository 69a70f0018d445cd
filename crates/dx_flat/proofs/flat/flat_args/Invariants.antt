use Rattle.std.proofs.Common.{List, All, map}
use Rattle.dx_macros.specs.DictionaryView.{dictionary_of}
use Rattle.dx_graph.specs.Graph.{Node}
use Rattle.dx_graph.specs.Operands.{given_of, GivenFits}
use Rattle.dx_flat.proofs.FlatCalls.{FlatSoFar}
use Rattle.dx_flat.proofs.flat.flat_args.Given as goal

abbrev pub invariant-loop-arg : goal.invariant-loop-arg
invariant-loop-arg l = record {
  flat : (nodes : List Node) → FlatSoFar (dictionary_of l.d) l.f l.args l.arg-index (map (given_of nodes) l.given);
  fits : (nodes : List Node) → All (GivenFits nodes) l.given;
}
