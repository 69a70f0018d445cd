use Rattle.dx_engine.specs.Keeping.{StateFits}
use Rattle.dx_engine_tests.proofs.long_tests.execute_often.Given as goal

abbrev pub invariant-turns : goal.invariant-turns
invariant-turns l = StateFits l.state
