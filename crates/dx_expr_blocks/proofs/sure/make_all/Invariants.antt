use Rattle.std.proofs.Common.{◌≡◌, ℕ, ◌<◌, ◌≤◌, pos, length, take, drop}
use Rattle.std.specs.Prelude.{slice_index_or, IsOk}
use Rattle.dx_expr_blocks.specs.Block.{behind, up_to, steps}
use Rattle.dx_expr_blocks.proofs.sure.make_all.Given as goal

abbrev pub invariant-loop-place : goal.invariant-loop-place
invariant-loop-place g l = record {
  run : behind (take l.place l.left) (up_to (steps (λ place v. g.O.Operator.makes l.operator v (g.R.Side.value l.right place)) l.place (drop l.place l.left)))
      ≡ up_to (steps (λ place v. g.O.Operator.makes l.operator v (g.R.Side.value l.right place)) 0 l.initial.left);
  sure : (k : ℕ) → l.place ≤ k → k < length l.initial.left → IsOk (g.O.Operator.makes l.operator (slice_index_or l.left k (pos 0)) (g.R.Side.value l.right k));
}
