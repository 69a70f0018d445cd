-- The calls that the data of a selector meets, at which looking at a graph stops.
use Rattle.std.specs.Prelude.{◌≡◌, ℕ, List}
use Rattle.dx_graph.specs.Graph.{Node, node_at}
use Rattle.dx_graph.specs.Unfolding.{calls_of, tree_of, trees_of}
use Rattle.dx_graph.specs.declared.node.Input.{Input}
use Rattle.dx_meaning.specs.Picking.{selector_at}
use Rattle.dx_meaning.specs.Scan.{Sight}
use Rattle.dx_meaning.specs.Met.{Called, met_at}
use Rattle.dx_meaning.specs.Halted.{halted_met, each_halted}
use Rattle.dx_demand.specs.Memo.{input_at}
use Rattle.dx_demand.specs.Calling.{node_met}
use Rattle.dx_demand.specs.declared.settled.Port.{Port}
use Rattle.dx_demand.specs.declared.settled.Resolved.{Resolved}
use Rattle.dx_demand.specs.declared.settled.Resolved.TheVariants as resolved

abbrev pub node_halted : Sight → List Node → ℕ → List (List Called)
node_halted s nodes n = each_halted s (trees_of (calls_of nodes) (node_at nodes n).inputs)

abbrev pub input_halted : Sight → List Node → Input → List Called
input_halted s nodes i = halted_met s (tree_of (calls_of nodes) i)

abbrev pub port_halted : Sight → List Node → Port → List Called
port_halted s nodes p = input_halted s nodes (input_at p)

-- those that the data of a node's selector meets
abbrev pub selector_calls : Sight → List Node → ℕ → List Called
selector_calls s nodes n = met_at (node_met s nodes n) (selector_at (node_at nodes n).what)

-- where the value of a selector is needed, looking stops at that of this node
abbrev pub HaltsAt : Sight → List Node → Input → Resolved → Type 0
HaltsAt s nodes i (resolved.Value t) = Unit {0}
HaltsAt s nodes i resolved.Off = Unit {0}
HaltsAt s nodes i (resolved.Halt n code) = Unit {0}
HaltsAt s nodes i (resolved.Need t n) = input_halted s nodes i ≡ selector_calls s nodes n
