use Rattle.dx_outcome.proofs.Plans as plans
use Rattle.dx_outcome.proofs.laws.one_outcome.Goals as goal

pub returns-clause-plan : goal.returns-clause-plan
returns-clause-plan c = plans.one_plan

pub returns-clause-outcome : goal.returns-clause-outcome
returns-clause-outcome c = plans.one_outcome
