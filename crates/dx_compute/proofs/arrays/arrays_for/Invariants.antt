use Rattle.std.proofs.Common.{◌≡◌, drop}
use Rattle.dx_compute_meaning.specs.Arrays as spec
use Rattle.dx_compute_meaning.specs.Shown.{shown, shown_arrays, behind}
use Rattle.dx_compute.proofs.arrays.arrays_for.Given as goal

abbrev pub invariant-loop-operand : goal.invariant-loop-operand
invariant-loop-operand l = behind (shown_arrays l.found) (spec.arrays_for (shown (drop l.operand-index l.operands))) ≡ spec.arrays_for (shown l.operands)
