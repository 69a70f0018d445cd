use Rattle.dx_shown.proofs.Alike.{statements_are_meant, sessions_are_meant}
use Rattle.dx_shown.proofs.laws.sessions_show_what_is_meant.Goals as goal

pub returns-clause-one : goal.returns-clause-one
returns-clause-one c = statements_are_meant

pub returns-clause-all : goal.returns-clause-all
returns-clause-all c = sessions_are_meant
