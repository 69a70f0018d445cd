use Rattle.std.proofs.Common.{◌≡◌, ◌-◌, ◌*◌, ◌/◌, ◌^◌, ◌≤◌, length, drop}
use Rattle.dx_base.specs.Array.{product, offset, indices_of}
use Rattle.dx_arrays.specs.Reach.{IsWithin}
use Rattle.dx_arrays.proofs.grid.position.Given as goal

abbrev pub decreases-loop-k : goal.decreases-loop-k
decreases-loop-k l = l.k

abbrev pub invariant-loop-k : goal.invariant-loop-k
invariant-loop-k l = record {
  within : l.k ≤ length l.counts;
  rest : l.rest ≡ l.item / product (drop l.k l.counts);
  sum : l.sum ≡ offset (length l.counts) (indices_of (drop l.k l.counts) l.item) (drop (l.k * length l.counts) l.deltas) l.place;
  bound : IsWithin ((3 - l.k) * 2 ^ 95) l.sum;
}
