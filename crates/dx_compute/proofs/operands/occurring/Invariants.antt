use Rattle.std.proofs.Common.{◌≡◌, ◌++◌, drop}
use Rattle.dx_objects.specs.Values.{values_of}
use Rattle.dx_compute_meaning.specs.Operands as spec
use Rattle.dx_compute_meaning.specs.Shown.{shown}
use Rattle.dx_compute.proofs.operands.occurring.Given as goal

abbrev pub invariant-loop-k : goal.invariant-loop-k
invariant-loop-k l = shown l.found.items ++ spec.occurring l.e l.k (values_of (drop l.k l.further)) ≡ spec.occurring l.e 0 (values_of l.further)
