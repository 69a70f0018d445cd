use Rattle.dx_inquire.proofs.StepLaws.{inquire_steps}
use Rattle.dx_inquire.proofs.laws.steps_law.Goals as goal

pub returns : goal.returns
returns c = inquire_steps
