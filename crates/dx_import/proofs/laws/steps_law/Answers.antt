use Rattle.dx_import.proofs.StepLaws.{import_steps}
use Rattle.dx_import.proofs.laws.steps_law.Goals as goal

pub returns : goal.returns
returns c = import_steps
