use Rattle.std.proofs.Common.{◌<◌, length, refl, arith, ap, sym, ◌∙◌}
use Rattle.std.specs.Prelude.{slice_index}
use Rattle.dx_expr.specs.Value.{checked}
use Rattle.dx_expr_blocks.specs.Block.{up_to}
use Rattle.dx_expr_blocks.specs.Items.{items_of}
use Rattle.dx_expr_blocks.proofs.Looping.{steps_map}
use Rattle.dx_expr_blocks.proofs.Ranges.{below_at}
use Rattle.dx_expr_blocks.proofs.load.asked.Goals as goal

pub filled-requires : goal.filled-requires
filled-requires g c = λ place below.
    let h : place < length (items_of c.args.block) = omega (arith, c.requires.room) in
    (c.requires.single, h, below_at (g.I.Inputs.items c.args.inputs.now) (items_of c.args.block) c.requires.within place h)

pub returns : goal.returns
returns g c =
    let items = items_of c.args.block in
    let inputs = g.I.Inputs.given c.args.inputs.now in
    let e = steps_map (λ p v. checked (inputs.value c.args.k (slice_index items p) 0)) (λ item. checked (inputs.value c.args.k item 0)) items c.args.buffer.items c.requires.room (λ p v h. refl) in
    ap up_to (sym e) ∙ c.filled.ensures
