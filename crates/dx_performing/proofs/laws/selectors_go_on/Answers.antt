use Rattle.dx_performing.proofs.SelectorsGoOn.{tree_goes_on, all_go_on}
use Rattle.dx_performing.proofs.laws.selectors_go_on.Goals as goal

pub returns-clause-one : goal.returns-clause-one
returns-clause-one c = tree_goes_on

pub returns-clause-all : goal.returns-clause-all
returns-clause-all c = all_go_on
