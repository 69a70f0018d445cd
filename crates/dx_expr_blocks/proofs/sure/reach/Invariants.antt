use Rattle.std.proofs.Common.{ℕ, ◌<◌, ◌≤◌, pos}
use Rattle.std.specs.Prelude.{slice_index_or, unsigned_abs}
use Rattle.dx_expr_blocks.proofs.sure.reach.Given as goal

abbrev pub invariant-loop-value : goal.invariant-loop-value
invariant-loop-value l = (k : ℕ) → k < l.value-index → unsigned_abs (slice_index_or l.values k (pos 0)) ≤ l.reach
