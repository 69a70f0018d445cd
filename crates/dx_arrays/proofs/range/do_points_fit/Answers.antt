use Rattle.std.proofs.Common.{◌∙◌, sym, length, FitsSigned, w64, rules}
use Rattle.std.proofs.lemmas.Int.{to_z-of_z}
use Rattle.dx_base.specs.Array.{number}
use Rattle.dx_arrays.specs.Reach.{point_fits}
use Rattle.dx_arrays.proofs.Each.{each-fails, each-holds}
use Rattle.dx_arrays.proofs.range.do_points_fit.Goals as goal

pub returns-then-not-is_in_range : goal.returns-then-not-is_in_range
returns-then-not-is_in_range c =
    let f : FitsSigned w64 (number c.args.origin.now c.loop-place.place) = search rules in
    let low = rw (to_z-of_z w64 _ f) at c.reach_of-reach.ensures.low in
    let high = rw (to_z-of_z w64 _ f) at c.reach_of-reach.ensures.high in
    let here = rw (low, high) at c.is_in_range.ensures in
    sym (each-fails (point_fits c.args.counts.now c.args.origin.now c.args.deltas.now) (length c.args.counts.now) c.loop-place.place c.loop-place-test.true (sym here ∙ c.if-not-is_in_range.true)) ∙ c.loop-place.invariant

pub loop-place-preserved : goal.loop-place-preserved
loop-place-preserved c =
    let f : FitsSigned w64 (number c.args.origin.now c.loop-place.place) = search rules in
    let low = rw (to_z-of_z w64 _ f) at c.reach_of-reach.ensures.low in
    let high = rw (to_z-of_z w64 _ f) at c.reach_of-reach.ensures.high in
    let here = rw (low, high) at c.is_in_range.ensures in
    each-holds (point_fits c.args.counts.now c.args.origin.now c.args.deltas.now) (length c.args.counts.now) c.loop-place.place c.loop-place-test.true (sym here ∙ c.if-not-is_in_range.false) ∙ c.loop-place.invariant
