use Rattle.std.proofs.Common.{rules, arith, ℕ, ◌<◌, sym, ◌∙◌}
use Rattle.std.proofs.lemmas.Grind.{common_steps}
use Rattle.dx_expr.specs.Value.{binary_value, value_at, places}
use Rattle.dx_expr.proofs.Places.{each_next, each_fails}
use Rattle.dx_expr.proofs.values.beside.Goals as goal

pub returns-in_err-v : goal.returns-in_err-v
returns-in_err-v c =
    let n : ℕ = places c.args.xs.now c.args.ys.now in
    let below : c.loop-place.place < n = omega (arith, c.places-place-end.ensures) in
    let e = sym c.loop-place.invariant ∙ each_fails (λ i. binary_value c.args.operator (value_at c.args.xs.now i) (value_at c.args.ys.now i)) c.loop-place.found n c.loop-place.place below c.in_err-v.field-0.0 (sym c.value_of_two.ensures ∙ c.in_err-v.was) in
    first_of (search rules, grind (arith, common_steps))

pub loop-place-preserved : goal.loop-place-preserved
loop-place-preserved c =
    let n : ℕ = places c.args.xs.now c.args.ys.now in
    let below : c.loop-place.place < n = omega (arith, c.places-place-end.ensures) in
    let e = sym (each_next (λ i. binary_value c.args.operator (value_at c.args.xs.now i) (value_at c.args.ys.now i)) c.loop-place.found n c.loop-place.place below c.in_ok-v.v (sym c.value_of_two.ensures ∙ c.in_ok-v.was)) ∙ c.loop-place.invariant in
    first_of (search rules, grind (arith, common_steps))
