use Rattle.std.proofs.Common.{◌≡◌, ◌≤◌, ◌+◌, ◌-◌, ◌++◌, drop, length}
use Rattle.std.specs.Vec.{vec_len, vec_capacity}
use Rattle.dx_native_head.proofs.ints.push_ints.Given as goal

abbrev pub invariant-loop-value : goal.invariant-loop-value
invariant-loop-value l = record {
  values : l.found.items ++ drop l.value-index l.values ≡ l.fn.found.items ++ l.values;
  room : vec_len l.found + (length l.values - l.value-index) ≤ vec_capacity l.found;
}
