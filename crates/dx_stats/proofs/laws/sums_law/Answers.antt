use Rattle.dx_stats.proofs.Enough.{sums_fit, array_sums_fit}
use Rattle.dx_stats.proofs.laws.sums_law.Goals as goal

pub returns-clause-numbers : goal.returns-clause-numbers
returns-clause-numbers c = sums_fit

pub returns-clause-arrays : goal.returns-clause-arrays
returns-clause-arrays c = array_sums_fit
