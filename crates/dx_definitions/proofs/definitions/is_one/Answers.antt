use Rattle.dx_definitions.proofs.Constants.{single}
use Rattle.dx_definitions.proofs.definitions.is_one.Goals as goal

pub returns-in-len1 : goal.returns-in-len1
returns-in-len1 c = λ e. single c.args.names.now c.in-len1.len_at_least c.in-len1.len_below
