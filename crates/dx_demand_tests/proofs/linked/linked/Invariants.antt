use Rattle.dx_demand_tests.specs.Linked.{AreLinked}
use Rattle.dx_demand_tests.proofs.linked.linked.Given as goal

abbrev pub invariant-keys : goal.invariant-keys
invariant-keys l = AreLinked l.tags l.links.links
