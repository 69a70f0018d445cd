-- The counts of bins with one number more.
use Rattle.std.specs.Prelude.{ℤ, pos, ◌+ℤ◌, List, Bool, true, false, slice_index_or, slice_set}
use Rattle.dx_stats.specs.declared.bins.Bins.{Bins}
use Rattle.dx_stats.specs.Bins.{is_counted, bin_of}

abbrev pub tallied_if : Bool → Bins → ℤ → List ℤ → List ℤ
tallied_if true b v counts = slice_set counts (bin_of b v) (slice_index_or counts (bin_of b v) (pos 0) +ℤ pos 1)
tallied_if false b v counts = counts

abbrev pub tallied : Bins → ℤ → List ℤ → List ℤ
tallied b v counts = tallied_if (is_counted b v) b v counts
