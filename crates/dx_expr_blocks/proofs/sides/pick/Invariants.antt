use Rattle.std.proofs.Common.{◌≡◌, ◌≤◌, ◌++◌, take, drop}
use Rattle.dx_expr_blocks.specs.Block.{picked, passes}
use Rattle.dx_expr_blocks.specs.Items.{items_of}
use Rattle.dx_expr_blocks.proofs.sides.pick.Given as goal

abbrev pub invariant-loop-place : goal.invariant-loop-place
invariant-loop-place l =
    (l.picked ≤ l.place) × (take l.picked l.picks ++ picked (passes l.wanted) (drop l.place l.conditions) (drop l.place (items_of l.block)) ≡ picked (passes l.wanted) l.conditions (items_of l.block))
