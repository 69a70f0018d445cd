use Rattle.std.proofs.Common.{◌≡◌, map, drop}
use Rattle.dx_compute_meaning.specs.Operands as spec
use Rattle.dx_compute_meaning.specs.Shown.{shown}
use Rattle.dx_compute.proofs.groups.are_alike.Given as goal

abbrev pub invariant-loop-operand : goal.invariant-loop-operand
invariant-loop-operand l = spec.are_all l.count (map spec.member_count (spec.groups (shown (drop l.operand-index l.operands)))) ≡ spec.are_all l.count (map spec.member_count (spec.groups (shown l.operands)))
