use Rattle.std.proofs.Common.{◌<◌, length, pos, slice_index_or, refl, arith, ap, sym, ◌∙◌}
use Rattle.std.specs.Prelude.{slice_index}
use Rattle.dx_expr.specs.Value.{checked}
use Rattle.dx_expr_blocks.specs.Block.{up_to}
use Rattle.dx_expr_blocks.specs.Items.{items_of}
use Rattle.dx_expr_blocks.proofs.Looping.{steps_map}
use Rattle.dx_expr_blocks.proofs.Ranges.{below_at}
use Rattle.dx_expr_blocks.proofs.load.loaded.Goals as goal

pub filled-requires : goal.filled-requires
filled-requires c = λ place below.
    let h : place < length (items_of c.args.block) = omega (arith, c.requires.room) in
    (h, below_at (length c.args.values.now) (items_of c.args.block) c.requires.within place h)

pub returns : goal.returns
returns c =
    let items = items_of c.args.block in
    let e = steps_map (λ p v. checked (slice_index_or c.args.values.now (slice_index items p) (pos 0))) (λ item. checked (slice_index_or c.args.values.now item (pos 0))) items c.args.buffer.items c.requires.room (λ p v h. refl) in
    ap up_to (sym e) ∙ c.filled.ensures
