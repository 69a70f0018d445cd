use Rattle.dx_performing.proofs.Alike.{gets_alike, get_all_alike}
use Rattle.dx_performing.proofs.laws.formed_calls_stay.Goals as goal

pub returns-clause-one : goal.returns-clause-one
returns-clause-one c = gets_alike

pub returns-clause-all : goal.returns-clause-all
returns-clause-all c = get_all_alike
