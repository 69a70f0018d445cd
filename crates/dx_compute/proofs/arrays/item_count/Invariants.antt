use Rattle.std.proofs.Common.{◌≡◌, drop}
use Rattle.dx_compute_meaning.specs.Arrays as spec
use Rattle.dx_compute_meaning.specs.Shown.{shown_arrays}
use Rattle.dx_compute.proofs.arrays.item_count.Given as goal

abbrev pub invariant-loop-array : goal.invariant-loop-array
invariant-loop-array l = spec.item_count (shown_arrays (drop l.array-index l.arrays)) ≡ spec.item_count (shown_arrays l.arrays)
