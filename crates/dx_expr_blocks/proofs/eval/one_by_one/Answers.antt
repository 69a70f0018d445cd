use Rattle.std.proofs.Common.{◌<◌, length, arith, sym, subst}
use Rattle.dx_expr_blocks.specs.Items.{items_of}
use Rattle.dx_expr_blocks.proofs.Ranges.{below_at}
use Rattle.dx_expr_blocks.proofs.eval.one_by_one.Goals as goal

pub single_value-requires-clause-item : goal.single_value-requires-clause-item
single_value-requires-clause-item g c =
    let h : c.loop-place.place < length (items_of c.args.block) = omega (arith, c.count-place-end.ensures) in
    subst (λ n. n < g.I.Inputs.items c.args.inputs.now) (sym c.item_at.ensures) (below_at (g.I.Inputs.items c.args.inputs.now) (items_of c.args.block) c.requires.within c.loop-place.place h)
