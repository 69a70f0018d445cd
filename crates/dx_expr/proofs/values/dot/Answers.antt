use Rattle.std.proofs.Common.{rules, arith, length, sym, ◌∙◌, to_z, w32}
use Rattle.std.proofs.lemmas.Grind.{common_steps}
use Rattle.dx_expr.proofs.Places.{dot_next}
use Rattle.dx_expr.proofs.values.dot.Goals as goal

pub loop-place-preserved : goal.loop-place-preserved
loop-place-preserved c =
    let e = sym (dot_next c.args.xs.now c.args.ys.now (length c.args.xs.now) c.loop-place.place (to_z w32 c.loop-place.sum-bits) c.loop-place-test.true) ∙ c.loop-place.invariant in
    first_of (search rules, grind (arith, common_steps))
