use Rattle.dx_stats.proofs.StepLaws.{statistics_makes_steps, histogram_makes_steps}
use Rattle.dx_stats.proofs.laws.steps_law.Goals as goal

pub returns-clause-statistics : goal.returns-clause-statistics
returns-clause-statistics c = statistics_makes_steps

pub returns-clause-histogram : goal.returns-clause-histogram
returns-clause-histogram c = histogram_makes_steps
