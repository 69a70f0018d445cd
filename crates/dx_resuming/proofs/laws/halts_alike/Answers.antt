use Rattle.dx_resuming.proofs.Halted as halted
use Rattle.dx_resuming.proofs.laws.halts_alike.Goals as goal

pub returns-clause-one : goal.returns-clause-one
returns-clause-one c = halted.halts_alike

pub returns-clause-all : goal.returns-clause-all
returns-clause-all c = halted.all_halts_alike
