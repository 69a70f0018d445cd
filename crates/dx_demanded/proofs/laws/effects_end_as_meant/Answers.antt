use Rattle.dx_demanded.proofs.Ended as ended
use Rattle.dx_demanded.proofs.laws.effects_end_as_meant.Goals as goal

pub returns : goal.returns
returns c = ended.effects_end_as_meant
