use Rattle.std.proofs.Common.{◌≡◌, ◌+◌, ◌*◌, ◌^◌, ◌+ℤ◌, length, drop}
use Rattle.dx_arrays.specs.Reach.{IsWithin, lowest_offset, highest_offset}
use Rattle.dx_arrays.proofs.range.reach_of.Given as goal

abbrev pub invariant-loop-k : goal.invariant-loop-k
invariant-loop-k l = record {
  low : l.reach.low +ℤ lowest_offset (length l.counts) (drop l.k l.counts) (drop (l.k * length l.counts) l.deltas) l.place ≡ l.origin +ℤ lowest_offset (length l.counts) l.counts l.deltas l.place;
  high : l.reach.high +ℤ highest_offset (length l.counts) (drop l.k l.counts) (drop (l.k * length l.counts) l.deltas) l.place ≡ l.origin +ℤ highest_offset (length l.counts) l.counts l.deltas l.place;
  low_within : IsWithin (2 ^ 64 + l.k * 2 ^ 95) l.reach.low;
  high_within : IsWithin (2 ^ 64 + l.k * 2 ^ 95) l.reach.high;
}
