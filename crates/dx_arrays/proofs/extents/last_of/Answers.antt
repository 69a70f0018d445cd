use Rattle.dx_arrays.proofs.Lines.{last_at}
use Rattle.dx_arrays.proofs.extents.last_of.Goals as goal

pub returns : goal.returns
returns c = last_at c.args.counts.now c.requires
