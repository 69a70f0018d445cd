use Rattle.std.proofs.Common.{ℤ, pos, get_or, FitsSigned, w32, w64, rules}
use Rattle.std.proofs.lemmas.Int.{to_z-of_z}
use Rattle.dx_stats.proofs.Held.{adds_more}
use Rattle.dx_stats.proofs.sums.Sums.with_ints.Goals as goal

pub loop-value-preserved : goal.loop-value-preserved
loop-value-preserved c =
    let v : ℤ = get_or c.args.values.now c.loop-value.value-index (pos 0) in
    let fits : FitsSigned w32 v = search rules in
    let next = rw (to_z-of_z w64 c.from.result (record { sfits = c.from.type_inv }), c.from.ensures, to_z-of_z w32 v fits) at c.and-sums.ensures.next in
    (adds_more c.args.self c.loop-value.sums c.and-sums.result c.args.values.now c.loop-value.value-index c.loop-value-test.true c.loop-value.invariant.0 next, c.and-sums.ensures.held)
