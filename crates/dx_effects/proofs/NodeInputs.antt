-- The inputs of a node are constants and results of nodes of its graph.
use Rattle.std.proofs.Common.{◌<◌, ℕ, List, length, All, arith}
use Rattle.std.specs.Prelude.{slice_index_or}
use Rattle.dx_graph.specs.Graph.{Node, node_at, MayTake}
use Rattle.dx_graph.specs.declared.node.Input.{Input}
use Rattle.dx_graph.specs.declared.node.Input.TheVariants as input
use Rattle.dx_demand.proofs.PortSteps.{nodes_of}
use Rattle.dx_graph.specs.GraphView.{graph_of}
use Rattle.dx_looking.specs.Setting.{nodes_in}
use Rattle.dx_looking.specs.declared.setup.Setup.{Setup}

may_take_on : (nodes : List Node) (n : ℕ) → n < length nodes → (i : Input) → MayTake nodes n i → MayTake nodes (length nodes) i
may_take_on nodes n lt (input.Constant c) h = h
may_take_on nodes n lt (input.Result m result) h = ((let below = h.0 in omega (arith, below, lt)), h.1)

pub inputs_taken : (setup : Setup) (n : ℕ) → n < length (nodes_in setup) → All (MayTake (nodes_in setup) (length (nodes_in setup))) (node_at (nodes_in setup) n).inputs
inputs_taken setup n lt k d l =
    may_take_on (nodes_in setup) n lt (slice_index_or (node_at (nodes_in setup) n).inputs k d) ((nodes_of (graph_of setup.graph.now) setup.graph.now.lawful n lt).inputs k d l)
