use Rattle.dx_machine.proofs.Keeping.{getting_keeps, getting_all_keeps}
use Rattle.dx_machine.proofs.laws.getting_keeps_soundness.Goals as goal

pub returns-clause-one : goal.returns-clause-one
returns-clause-one c = getting_keeps

pub returns-clause-all : goal.returns-clause-all
returns-clause-all c = getting_all_keeps
