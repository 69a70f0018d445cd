use Rattle.std.proofs.Common.{◌≡◌, ◌++◌, drop}
use Rattle.dx_compute_meaning.specs.Operands as spec
use Rattle.dx_compute_meaning.specs.Shown.{shown}
use Rattle.dx_compute.proofs.groups.all_at_place.Given as goal

abbrev pub invariant-loop-operand : goal.invariant-loop-operand
invariant-loop-operand l = shown l.found.items ++ spec.all_at_place l.place (shown (drop l.operand-index l.operands)) ≡ spec.all_at_place l.place (shown l.operands)
