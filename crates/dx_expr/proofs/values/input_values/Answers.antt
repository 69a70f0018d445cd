use Rattle.std.proofs.Common.{rules, arith, ℕ, ◌<◌, sym, ◌∙◌}
use Rattle.std.proofs.lemmas.Grind.{common_steps}
use Rattle.dx_expr.specs.Value.{checked, size}
use Rattle.dx_expr.proofs.Places.{each_next}
use Rattle.dx_expr.proofs.values.input_values.Goals as goal

pub loop-place-preserved : goal.loop-place-preserved
loop-place-preserved g c =
    let inputs = g.I.Inputs.given c.args.inputs.now in
    let n : ℕ = size (inputs.shape c.args.k) in
    let below : c.loop-place.place < n = omega (arith, c.size-place-end.ensures) in
    let e = sym (each_next (λ place. checked (inputs.value c.args.k c.args.item place)) c.loop-place.found n c.loop-place.place below c.in_ok-v.v (sym c.input_value.ensures ∙ c.in_ok-v.was)) ∙ c.loop-place.invariant in
    first_of (search rules, grind (arith, common_steps))
