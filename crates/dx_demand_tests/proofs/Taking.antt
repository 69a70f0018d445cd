-- The inputs of a node are constants and results of nodes of its graph.
use Rattle.std.proofs.Common.{◌<◌, ℕ, List, length, All, arith}
use Rattle.std.specs.Prelude.{slice_index_or}
use Rattle.dx_graph.specs.Graph.{Graph, Node, node_at, MayTake, IsGraph}
use Rattle.dx_graph.specs.declared.node.Input.{Input}
use Rattle.dx_graph.specs.declared.node.Input.TheVariants as input
use Rattle.dx_demand.proofs.PortSteps.{nodes_of}

may_take_on : (nodes : List Node) (n : ℕ) → n < length nodes → (i : Input) → MayTake nodes n i → MayTake nodes (length nodes) i
may_take_on nodes n lt (input.Constant c) h = h
may_take_on nodes n lt (input.Result m result) h = ((let below = h.0 in omega (arith, below, lt)), h.1)

pub inputs_taken : (g : Graph) → ∥ IsGraph g ∥₁ → (n : ℕ) → n < length g.nodes → All (MayTake g.nodes (length g.nodes)) (node_at g.nodes n).inputs
inputs_taken g lawful n lt k d l = may_take_on g.nodes n lt (slice_index_or (node_at g.nodes n).inputs k d) ((nodes_of g lawful n lt).inputs k d l)
