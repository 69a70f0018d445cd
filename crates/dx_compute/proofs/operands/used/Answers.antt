use Rattle.std.proofs.Common.{rules, arith}
use Rattle.std.proofs.lemmas.Grind.{common_steps}
use Rattle.dx_expr.specs.Uses.{uses}
use Rattle.dx_compute_meaning.proofs.Places.{filter_next}
use Rattle.dx_compute.proofs.operands.used.Goals as goal

pub loop-k-preserved : goal.loop-k-preserved
loop-k-preserved c =
    let next = filter_next (λ k. uses k c.args.e.now) c.loop-k.k 21 (search rules) in
    grind (arith, common_steps, next, c.loop-k.invariant)
