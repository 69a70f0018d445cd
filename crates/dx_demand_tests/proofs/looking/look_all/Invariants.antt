use Rattle.dx_graph.specs.GraphView.{graph_of}
use Rattle.dx_demand.specs.Steps.{SeenFits}
use Rattle.dx_demand_tests.specs.Linked.{AreLinked}
use Rattle.dx_demand_tests.proofs.looking.look_all.Given as goal

abbrev pub invariant-inputs : goal.invariant-inputs
invariant-inputs l = record {
  linked : AreLinked l.tags l.before.links.links;
  seen : SeenFits (graph_of l.g).nodes l.tags l.seen;
}
