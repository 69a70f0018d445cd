use Rattle.dx_outcome.proofs.Meant.{outcomes_meant}
use Rattle.dx_outcome.proofs.laws.outcomes_are_meant.Goals as goal

pub returns : goal.returns
returns c = outcomes_meant
