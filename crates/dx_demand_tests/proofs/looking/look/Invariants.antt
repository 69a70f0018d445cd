use Rattle.dx_graph.specs.GraphView.{graph_of}
use Rattle.dx_demand.specs.Steps.{SeenFits}
use Rattle.dx_demand_tests.specs.Linked.{AreLinked}
use Rattle.dx_demand_tests.proofs.looking.look.Given as goal

abbrev pub invariant-turns : goal.invariant-turns
invariant-turns l = record {
  linked : AreLinked l.tags l.before.links.links;
  seen : SeenFits (graph_of l.g).nodes l.tags l.seen;
}
