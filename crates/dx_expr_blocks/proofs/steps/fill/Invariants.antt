use Rattle.std.proofs.Common.{◌≡◌, take, drop}
use Rattle.dx_expr_blocks.specs.Block.{behind, up_to, steps}
use Rattle.dx_expr_blocks.proofs.steps.fill.Given as goal

abbrev pub invariant-loop-place : goal.invariant-loop-place
invariant-loop-place g l =
    behind (take l.place l.values) (up_to (steps (g.S.Step.gives l.s) l.place (drop l.place l.values))) ≡ up_to (steps (g.S.Step.gives l.s) 0 l.initial.values)
