use Rattle.std.proofs.Common.{◌≡◌, ◌≤◌, ◌+◌, ◌*◌, ◌<◌, ℕ, zero, suc, List, [], ◌∷◌, drop, length, get_or, Option, sym, ap, ◌∙◌, subst, arith, Some, refl}
use Rattle.std.specs.declared.rc.Rc.{Rc}
use Rattle.std.specs.declared.alloc.Global.{Global}
use Rattle.dx_base.specs.Object.{Tree, value_size, results_size}
use Rattle.dx_objects.specs.Values.{value_of, values_of}
use Rattle.dx_getting.proofs.size.size_of.Goals as goal

one : (xs : List (Option (Rc Tree Global))) (i : ℕ) (x : Option (Rc Tree Global)) → i < length xs → x ≡ get_or xs i x → results_size (drop i (values_of xs)) ≡ value_size (value_of x) + results_size (drop (suc i) (values_of xs))
one [] i x h e = absurd (omega arith)
one (y ∷ xs) zero x h e = ap (λ (z : Option (Rc Tree Global)). value_size (value_of z) + results_size (values_of xs)) (sym e)
one (y ∷ xs) (suc i) x h e = one xs i x (omega arith) e

pub loop-value-preserved : goal.loop-value-preserved
loop-value-preserved c =
    let left = c.loop-value.invariant.left in
    let bounded = c.loop-value.invariant.bounded in
    let size = c.value_size-size.ensures.size in
    let most = c.value_size-size.ensures.bounded in
    let o = one c.as_slice-value-items.result.now c.loop-value.value-index c.value-item.result c.loop-value-test.true c.value-item.is in
    let after : suc c.loop-value.value-index ≡ c.loop-value.value-index + 1 = omega arith in
    let step : results_size (drop c.loop-value.value-index c.args.outs.now) ≡ value_size (value_of c.value-item.result) + results_size (drop (c.loop-value.value-index + 1) c.args.outs.now) = subst (λ n. results_size (drop c.loop-value.value-index c.args.outs.now) ≡ value_size (value_of c.value-item.result) + results_size (drop n c.args.outs.now)) after (subst (λ vs. results_size (drop c.loop-value.value-index vs) ≡ value_size (value_of c.value-item.result) + results_size (drop (suc c.loop-value.value-index) vs)) c.as_slice-value-items.ensures o) in
    record { left = omega (arith, left, step, size); bounded = omega (arith, bounded, most) }
