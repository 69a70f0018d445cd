use Rattle.std.proofs.Common.{below_more, subst, FitsSigned, w64, rules}
use Rattle.std.proofs.lemmas.Int.{to_z-of_z}
use Rattle.dx_compute.specs.Ranges.{Holds}
use Rattle.dx_compute.proofs.ranges.item_reach.Goals as goal

pub loop-place-preserved : goal.loop-place-preserved
loop-place-preserved c =
    let fits : FitsSigned w64 c.value.result = search rules in
    let own : Holds c.of.result c.value.result = rw (to_z-of_z w64 c.value.result fits) at c.of.ensures in
    below_more _ _ (λ p h. c.and-reach.ensures.own _ (c.loop-place.invariant p h)) (c.and-reach.ensures.other _ (subst (Holds c.of.result) c.value.ensures own))
