use Rattle.std.proofs.Common.{◌≡◌, length}
use Rattle.dx_compute_meaning.specs.Shown.{shown_arrays}
use Rattle.dx_compute.specs.Ranges.{KeepFirst}
use Rattle.dx_compute.proofs.ranges.ranges_of.Given as goal

abbrev pub invariant-loop-array : goal.invariant-loop-array
invariant-loop-array l = record {
  count : length l.ranges.items ≡ l.array-index;
  keep : KeepFirst (shown_arrays l.inputs.arrays.now) l.array-index l.from l.to l.ranges.items;
}
