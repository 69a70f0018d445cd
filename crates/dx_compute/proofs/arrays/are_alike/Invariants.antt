use Rattle.std.proofs.Common.{◌≡◌, true, drop}
use Rattle.dx_compute_meaning.specs.Arrays as spec
use Rattle.dx_compute_meaning.specs.Operands.{are_all}
use Rattle.dx_compute_meaning.specs.Shown.{shown_arrays, all_shaped}
use Rattle.dx_compute.proofs.arrays.are_alike.Given as goal

abbrev pub invariant-loop-array : goal.invariant-loop-array
invariant-loop-array l = record {
  alike : are_all l.items (spec.item_counts (shown_arrays (drop l.array-index l.arrays))) ≡ are_all l.items (spec.item_counts (shown_arrays l.arrays));
  shapes : all_shaped (shown_arrays (drop l.array-index l.arrays)) ≡ true → all_shaped (shown_arrays l.arrays) ≡ true;
}
