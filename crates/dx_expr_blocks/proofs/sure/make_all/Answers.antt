use Rattle.std.proofs.Common.{◌≡◌, ◌<◌, ℕ, ℤ, pos, length, arith, rules, w32, to_z, of_z, ◌∙◌}
use Rattle.std.specs.Prelude.{slice_index_or, Ok}
use Rattle.std.proofs.lemmas.Grind.{common_steps}
use Rattle.dx_expr_blocks.proofs.Looping.{one_made}
use Rattle.dx_expr_blocks.proofs.sure.make_all.Goals as goal

pub loop-place-preserved : goal.loop-place-preserved
loop-place-preserved g c =
    let below : c.loop-place.place < length c.loop-place.left = omega (arith, c.loop-place-test.true, c.loop-place.auto.left) in
    let right : ℕ → ℤ = g.R.Side.value c.args.right.now in
    let m : ℤ = to_z w32 (of_z w32 c.made.result) in
    let e : g.O.Operator.makes c.args.operator.now (slice_index_or c.loop-place.left c.loop-place.place (pos 0)) (right c.loop-place.place) ≡ Ok m = first_of (cc, search rules, grind (arith, common_steps)) in
    record {
      run = one_made (λ place v. g.O.Operator.makes c.args.operator.now v (right place)) c.loop-place.left c.loop-place.place m below e ∙ c.loop-place.invariant.run;
      sure = λ k after below.
          let h = c.loop-place.invariant.sure k (omega (arith, after)) below in
          grind (arith, common_steps, h);
    }
