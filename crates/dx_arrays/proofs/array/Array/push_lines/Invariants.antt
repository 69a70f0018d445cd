use Rattle.std.proofs.Common.{◌≡◌, ◌-◌, ◌≤◌, ◌+◌, ◌*◌, ◌++◌}
use Rattle.std.specs.Vec.{vec_len, vec_capacity}
use Rattle.dx_base.specs.Array.{width}
use Rattle.dx_arrays.specs.Block.{values_from}
use Rattle.dx_arrays.proofs.array.Array.push_lines.Given as goal

abbrev pub invariant-loop-item : goal.invariant-loop-item
invariant-loop-item l = record {
  from : l.from ≤ l.item;
  to : l.item ≤ l.to;
  values : l.out.items ≡ l.fn.out.items ++ values_from l.self l.from (l.item - l.from);
  room : vec_len l.out + (l.to - l.item) * width l.self ≤ vec_capacity l.out;
}

abbrev pub decreases-loop-item : goal.decreases-loop-item
decreases-loop-item l = l.to - l.item
