use Rattle.std.proofs.Common.{◌≡◌, ◌-◌, length}
use Rattle.std.specs.List.{list_all, range_with_len}
use Rattle.dx_arrays.specs.Reach.{point_fits, points_fit}
use Rattle.dx_arrays.proofs.range.do_points_fit.Given as goal

abbrev pub invariant-loop-place : goal.invariant-loop-place
invariant-loop-place l =
    list_all (point_fits l.counts l.origin l.deltas) (range_with_len l.place (length l.counts - l.place)) ≡ points_fit l.counts l.origin l.deltas
