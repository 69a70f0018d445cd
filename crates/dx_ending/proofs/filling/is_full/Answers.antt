use Rattle.dx_ending.proofs.FullLaws.{full_alike}
use Rattle.dx_ending.proofs.filling.is_full.Goals as goal

pub returns : goal.returns
returns c = full_alike c.args.tags.now c.count.result c.count.ensures
