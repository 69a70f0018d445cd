use Rattle.std.proofs.Common.{◌≡◌, ◌≤◌, ◌+◌, ◌*◌, drop}
use Rattle.dx_base.specs.Object.{results_size}
use Rattle.dx_base.specs.ObjectLimits.{max_size}
use Rattle.dx_objects.specs.Values.{values_of}
use Rattle.dx_getting.proofs.size.size_of.Given as goal

abbrev pub invariant-loop-value : goal.invariant-loop-value
invariant-loop-value l = record {
  left : l.size + results_size (drop l.value-index l.outs) ≡ results_size l.outs;
  bounded : l.size ≤ l.value-index * 268435456;
}
