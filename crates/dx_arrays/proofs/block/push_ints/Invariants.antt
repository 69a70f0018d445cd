use Rattle.std.proofs.Common.{◌≡◌, ◌≤◌, ◌+◌, ◌-◌, ◌++◌, drop, length}
use Rattle.std.specs.Vec.{vec_len, vec_capacity}
use Rattle.dx_arrays.proofs.block.push_ints.Given as goal

abbrev pub invariant-loop-value : goal.invariant-loop-value
invariant-loop-value l = record {
  values : l.out.items ++ drop l.value-index l.values ≡ l.fn.out.items ++ l.values;
  room : vec_len l.out + (length l.values - l.value-index) ≤ vec_capacity l.out;
}
