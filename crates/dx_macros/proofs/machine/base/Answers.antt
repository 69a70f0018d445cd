use Rattle.std.proofs.Common.{ap, arith, List, ◌∙◌}
use Rattle.dx_macros.specs.Site.{Step}
use Rattle.dx_macros.specs.Steps.{plain_steps}
use Rattle.dx_macros.specs.MachineView.{steps_to}
use Rattle.dx_macros.proofs.Pushes.{behind_all}
use Rattle.dx_macros.proofs.machine.base.Goals as goal

pub returns : goal.returns
returns c =
    c.in_ok-reach-2.ensures
    ∙ ap (λ (xs : List Step). steps_to xs c.args.reached) (behind_all (plain_steps c.loop-text.steps.items) c.args.waiting.now c.loop-text.text-index (omega arith) c.loop-text.invariant)
