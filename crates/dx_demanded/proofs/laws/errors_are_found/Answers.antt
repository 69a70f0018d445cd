use Rattle.dx_demanded.proofs.Found.{errors_found}
use Rattle.dx_demanded.proofs.Got.{gettings_find}
use Rattle.dx_demanded.proofs.Places.{first_is_of_all}
use Rattle.dx_demanded.proofs.laws.errors_are_found.Goals as goal

pub returns-clause-trees : goal.returns-clause-trees
returns-clause-trees c = errors_found

pub returns-clause-getting : goal.returns-clause-getting
returns-clause-getting c = gettings_find

pub returns-clause-arguments : goal.returns-clause-arguments
returns-clause-arguments c = first_is_of_all
