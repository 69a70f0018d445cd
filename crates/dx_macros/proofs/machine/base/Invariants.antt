use Rattle.std.proofs.Common.{◌≡◌, drop, []}
use Rattle.dx_macros.specs.Steps.{plain_steps}
use Rattle.dx_macros.specs.MachineView.{steps_behind}
use Rattle.dx_macros.proofs.machine.base.Given as goal

abbrev pub invariant-loop-text : goal.invariant-loop-text
invariant-loop-text l = steps_behind (plain_steps l.steps.items) (drop l.text-index l.waiting) ≡ steps_behind [] l.waiting
