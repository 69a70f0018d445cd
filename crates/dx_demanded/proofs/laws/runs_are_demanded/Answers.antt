use Rattle.dx_demanded.proofs.Performed.{runs_demanded}
use Rattle.dx_demanded.proofs.Used.{terms_use_demand}
use Rattle.dx_demanded.proofs.laws.runs_are_demanded.Goals as goal

pub returns-clause-executions : goal.returns-clause-executions
returns-clause-executions c = runs_demanded

pub returns-clause-trees : goal.returns-clause-trees
returns-clause-trees c = terms_use_demand
