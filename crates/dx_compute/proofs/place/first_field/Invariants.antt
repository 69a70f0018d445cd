use Rattle.std.proofs.Common.{◌≡◌, drop}
use Rattle.dx_compute_meaning.specs.Compute as spec
use Rattle.dx_compute_meaning.specs.Shown.{shown}
use Rattle.dx_compute.proofs.place.first_field.Given as goal

abbrev pub invariant-loop-operand : goal.invariant-loop-operand
invariant-loop-operand l = spec.first_field (shown (drop l.operand-index l.operands)) ≡ spec.first_field (shown l.operands)
