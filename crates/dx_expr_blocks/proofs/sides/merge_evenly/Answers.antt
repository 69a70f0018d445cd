use Rattle.std.proofs.Common.{◌≡◌, pos, [], drop, get_or, false, arith, sym, ap, ◌∙◌}
use Rattle.std.proofs.lemmas.Grind.{common_steps}
use Rattle.dx_expr.specs.Value.{is_zero}
use Rattle.dx_expr_blocks.specs.Block.{merged}
use Rattle.dx_expr_blocks.proofs.Looping.{ends_at_one}
use Rattle.dx_expr_blocks.proofs.sides.merge_evenly.Goals.{then-is_other, else-is_other, then-is_other-2, else-is_other-2}
use Rattle.dx_expr_blocks.proofs.sides.merge_evenly.Goals as goal

pub returns-else-is_other-3 : goal.returns-else-is_other-3
returns-else-is_other-3 c =
    elim c.if-is_other.branch [
      | then-is_other w ↦ grind (arith, common_steps)
      | else-is_other w ↦ elim c.if-is_other-2.branch [
        | then-is_other-2 v ↦ grind (arith, common_steps)
        | else-is_other-2 v ↦
            let nonzero : is_zero (get_or c.loop-place.conditions c.loop-place.place (pos 0)) ≡ false = grind (arith, common_steps) in
            let over : drop c.loop-place.i c.as_slice-one.result.now ≡ [] = grind (arith, common_steps) in
            ap (λ l. merged c.args.conditions.now c.args.end l c.args.ones.now.fault c.args.others.now.values.items c.args.others.now.fault) (sym c.as_slice-one.ensures.value)
            ∙ ap (λ l. merged c.args.conditions.now c.args.end c.as_slice-one.result.now c.args.ones.now.fault l c.args.others.now.fault) (sym c.as_slice-other.ensures.value)
            ∙ sym c.loop-place.invariant.2 ∙ ends_at_one c.loop-place.conditions c.args.end c.as_slice-one.result.now c.args.ones.now.fault c.as_slice-other.result.now c.args.others.now.fault c.loop-place.place c.loop-place.i c.loop-place.j (omega (arith, c.loop-place.auto.conditions, c.loop-place-test.true)) nonzero over
      ]
    ]
