-- The code's graph as a graph.
use Rattle.std.specs.Prelude.{List}
use Rattle.dx_macros.specs.Site.{Spot}
use Rattle.dx_graph.specs.Trails.{spots_of}
use Rattle.dx_graph.specs.Graph as plain
use Rattle.dx_graph.specs.Shown.{graph_with}
use Rattle.dx_graph.specs.declared.graph.Graph.{Graph}

abbrev pub graph_of : Graph → plain.Graph
graph_of g = graph_with g.trails g.nodes.items g.effects.items

-- the spots of its trails
abbrev pub spots_in : Graph → List Spot
spots_in g = spots_of g.trails
