use Rattle.dx_slab.proofs.StepLaws.{slab_answer_steps}
use Rattle.dx_slab.proofs.laws.steps_law.Goals as goal

pub returns : goal.returns
returns c = slab_answer_steps
