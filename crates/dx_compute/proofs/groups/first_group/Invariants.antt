use Rattle.std.proofs.Common.{◌≡◌, drop}
use Rattle.dx_compute_meaning.specs.Operands as spec
use Rattle.dx_compute_meaning.specs.Shown.{shown, first_of}
use Rattle.dx_compute.proofs.groups.first_group.Given as goal

abbrev pub invariant-loop-operand : goal.invariant-loop-operand
invariant-loop-operand l = first_of (spec.groups (shown (drop l.operand-index l.operands))) ≡ first_of (spec.groups (shown l.operands))
