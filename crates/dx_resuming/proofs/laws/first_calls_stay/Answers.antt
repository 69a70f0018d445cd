use Rattle.dx_resuming.proofs.Stayed as stayed
use Rattle.dx_resuming.proofs.laws.first_calls_stay.Goals as goal

pub returns : goal.returns
returns c = stayed.formed_stays
