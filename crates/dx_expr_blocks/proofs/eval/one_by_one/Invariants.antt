use Rattle.std.proofs.Common.{◌≡◌, drop}
use Rattle.dx_expr_blocks.specs.Block.{behind, block_of}
use Rattle.dx_expr_blocks.specs.Items.{items_of}
use Rattle.dx_expr_blocks.proofs.eval.one_by_one.Given as goal

abbrev pub invariant-loop-place : goal.invariant-loop-place
invariant-loop-place g l =
    let inputs = g.I.Inputs.given l.inputs in
    behind l.values.items (block_of inputs l.e (drop l.place (items_of l.block))) ≡ block_of inputs l.e (items_of l.block)
