use Rattle.dx_native_law.proofs.Whole.{read_written}
use Rattle.dx_native_law.proofs.laws.written_law.Goals as goal

pub returns : goal.returns
returns c = read_written
