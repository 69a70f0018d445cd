use Rattle.dx_outcome.proofs.Course.{entries_within}
use Rattle.dx_outcome.proofs.laws.entries_stay_within.Goals as goal

pub returns : goal.returns
returns c = entries_within
