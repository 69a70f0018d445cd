use Rattle.dx_performing.proofs.Ready as ready
use Rattle.dx_performing.proofs.laws.ready_stays.Goals as goal

pub returns : goal.returns
returns c = ready.ready_stays
