use Rattle.dx_resuming.proofs.FormedFirst as first
use Rattle.dx_resuming.proofs.laws.formed_same.Goals as goal

pub returns : goal.returns
returns c = first.formed_same
