use Rattle.dx_compute.proofs.Tables.{ints_in}
use Rattle.dx_compute.proofs.source.has_ints.Goals as goal

pub returns-in_default : goal.returns-in_default
returns-in_default c = λ e. ints_in c.args.t c.in_default.not-UInt
