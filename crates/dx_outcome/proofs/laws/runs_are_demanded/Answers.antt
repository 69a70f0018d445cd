use Rattle.dx_outcome.proofs.Meant.{runs_are_split}
use Rattle.dx_outcome.proofs.laws.runs_are_demanded.Goals as goal

pub returns : goal.returns
returns c = runs_are_split
