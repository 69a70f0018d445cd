use Rattle.dx_sessions.proofs.Fronts.{front_of_cut}
use Rattle.dx_sessions.proofs.laws.cuts_leave_fronts.Goals as goal

pub returns : goal.returns
returns c = front_of_cut
