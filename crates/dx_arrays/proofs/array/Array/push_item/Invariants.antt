use Rattle.std.proofs.Common.{◌≡◌, ◌+◌, ◌++◌, map}
use Rattle.std.specs.List.{range_with_len}
use Rattle.std.specs.Vec.{vec_len, vec_capacity}
use Rattle.dx_base.specs.Array.{value}
use Rattle.dx_arrays.proofs.array.Array.push_item.Given as goal

abbrev pub invariant-loop-place : goal.invariant-loop-place
invariant-loop-place l = record {
  values : l.out.items ≡ l.fn.out.items ++ map (value l.self l.item) (range_with_len 0 l.place);
  len : vec_len l.out ≡ vec_len l.fn.out + l.place;
  capacity : vec_capacity l.out ≡ vec_capacity l.fn.out;
}
