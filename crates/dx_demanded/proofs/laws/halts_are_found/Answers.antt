use Rattle.dx_demanded.proofs.Halted.{halts_found}
use Rattle.dx_demanded.proofs.HaltsGot.{halted_gettings_find}
use Rattle.dx_demanded.proofs.laws.halts_are_found.Goals as goal

pub returns-clause-trees : goal.returns-clause-trees
returns-clause-trees c = halts_found

pub returns-clause-getting : goal.returns-clause-getting
returns-clause-getting c = halted_gettings_find
