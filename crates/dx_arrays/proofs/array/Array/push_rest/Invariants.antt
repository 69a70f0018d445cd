use Rattle.std.proofs.Common.{◌≡◌, ◌+◌, ◌-◌, ◌*◌, ◌++◌, List, ℤ, take}
use Rattle.std.specs.Vec.{vec_len, vec_capacity}
use Rattle.dx_arrays.specs.Block.{values_from}
use Rattle.dx_arrays.proofs.array.Array.push_rest.Given as goal

abbrev pub invariant-loop-k : goal.invariant-loop-k
invariant-loop-k l = record {
  values : (before : List ℤ) → l.fn.out.items ≡ before ++ values_from l.self l.item 2 → l.out.items ≡ before ++ take l.k (values_from l.self l.item (l.end - l.item));
  len : vec_len l.out + 2 * l.width ≡ vec_len l.fn.out + l.k;
  capacity : vec_capacity l.out ≡ vec_capacity l.fn.out;
}
