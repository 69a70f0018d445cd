use Rattle.dx_demanded.proofs.HaltsLast.{selectors_stop_last}
use Rattle.dx_demanded.proofs.Last.{terms_stop_last, arguments_stop_last}
use Rattle.dx_demanded.proofs.laws.refusals_run_last.Goals as goal

pub returns-clause-trees : goal.returns-clause-trees
returns-clause-trees c = terms_stop_last

pub returns-clause-arguments : goal.returns-clause-arguments
returns-clause-arguments c = arguments_stop_last

pub returns-clause-selectors : goal.returns-clause-selectors
returns-clause-selectors c = selectors_stop_last
