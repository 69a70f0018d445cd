use Rattle.dx_stats.proofs.Single.{some_sums}
use Rattle.dx_stats.proofs.statistics.statistics_of.Goals as goal

pub results_of-requires-clause-some : goal.results_of-requires-clause-some
results_of-requires-clause-some c = some_sums c.args.array.now c.in_ok-sums.sums c.requires.single c.requires.some c.in_ok-sums.ensures.sums
