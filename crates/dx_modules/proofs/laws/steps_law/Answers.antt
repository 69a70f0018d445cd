use Rattle.dx_modules.proofs.StepLaws.{modules_keep_steps}
use Rattle.dx_modules.proofs.laws.steps_law.Goals as goal

pub returns : goal.returns
returns c = modules_keep_steps
