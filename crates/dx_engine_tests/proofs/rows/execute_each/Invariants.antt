use Rattle.dx_engine.specs.Keeping.{StateFits}
use Rattle.dx_engine_tests.proofs.rows.execute_each.Given as goal

abbrev pub invariant-each : goal.invariant-each
invariant-each l = StateFits l.state
