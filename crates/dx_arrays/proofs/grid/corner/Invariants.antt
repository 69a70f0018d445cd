use Rattle.std.proofs.Common.{◌≡◌, ◌/◌, ◌^◌, ◌≤◌, length, drop}
use Rattle.dx_base.specs.Array.{product, cells}
use Rattle.dx_arrays.specs.Corner.{corner_at}
use Rattle.dx_arrays.proofs.grid.corner.Given as goal

abbrev pub decreases-loop-k : goal.decreases-loop-k
decreases-loop-k l = l.k

abbrev pub invariant-loop-k : goal.invariant-loop-k
invariant-loop-k l = record {
  within : l.k ≤ length l.counts;
  cell : l.cell ≡ l.item / product (cells (drop l.k l.counts));
  side : l.side ≡ l.place / 2 ^ length (drop l.k l.counts);
  stride : l.stride ≡ product (drop l.k l.counts);
  number : l.number ≡ corner_at (drop l.k l.counts) l.item l.place;
}
