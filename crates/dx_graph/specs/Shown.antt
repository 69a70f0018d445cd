-- What the code's nodes stand for.
use Rattle.std.specs.Prelude.{ℕ, List, All, map}
use Rattle.dx_macros.specs.Site.{Spot}
use Rattle.dx_graph.specs.Trails.{spot_under, spots_of, IsTrail}
use Rattle.dx_graph.specs.Graph as plain
use Rattle.dx_graph.specs.declared.node.Node.{Node}
use Rattle.dx_graph.specs.declared.node.Placed.{Placed}
use Rattle.dx_graph.specs.declared.trail.Trail.{Trail}

abbrev pub plain_node : List Spot → Placed → plain.Node
plain_node spots p = plain.node_of (spot_under spots p.trail) p.called p.node.what p.node.inputs p.node.cache p.k

abbrev pub graph_with : List Trail → List Placed → List ℕ → plain.Graph
graph_with trails nodes effects = record { nodes = map (plain_node (spots_of trails)) nodes; effects = effects }

-- each node stands in the text of one of so many trails
abbrev pub IsPlaced : ℕ → Placed → Type 0
IsPlaced count p = IsTrail count p.trail

abbrev pub ArePlaced : ℕ → List Placed → Type 0
ArePlaced count nodes = All (IsPlaced count) nodes

-- the node without its place
abbrev pub own : plain.Node → Node
own n = record { what = n.what; inputs = n.inputs; cache = n.place.cache }
