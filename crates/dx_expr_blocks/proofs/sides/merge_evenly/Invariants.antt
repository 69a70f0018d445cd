use Rattle.std.proofs.Common.{◌≡◌, ◌≤◌, length, take, drop}
use Rattle.dx_expr_blocks.specs.Block.{behind, merged}
use Rattle.dx_expr_blocks.proofs.sides.merge_evenly.Given as goal

abbrev pub invariant-loop-place : goal.invariant-loop-place
invariant-loop-place l =
    (l.i ≤ length l.one) × (l.j ≤ length l.other) ×
    (behind (take l.place l.conditions) (merged (drop l.place l.conditions) l.end (drop l.i l.one) l.ones.fault (drop l.j l.other) l.others.fault) ≡ merged l.initial.conditions l.end l.one l.ones.fault l.other l.others.fault)
