use Rattle.std.proofs.Common.{◌≡◌, ◌+◌, ◌≤◌, min, drop}
use Rattle.dx_base.specs.Object.{results_size}
use Rattle.dx_objects.specs.Values.{values_of}
use Rattle.dx_objects.proofs.outs.Outs.size.Given as goal

abbrev pub invariant-loop-value : goal.invariant-loop-value
invariant-loop-value l = record {
  sum : min (l.size + results_size (values_of (drop l.value-index l.value-items))) 18446744073709551615 ≡ min (results_size l.self) 18446744073709551615;
  small : l.size ≤ 18446744073709551615;
}
