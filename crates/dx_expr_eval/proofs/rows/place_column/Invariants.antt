use Rattle.std.proofs.Common.{ℕ, ◌≡◌, ◌<◌, ◌+◌, ◌*◌, pos, length}
use Rattle.std.specs.Prelude.{slice_index_or}
use Rattle.dx_expr_eval.proofs.rows.place_column.Given as goal

abbrev pub invariant-loop-row : goal.invariant-loop-row
invariant-loop-row l = record {
  size : length l.rows ≡ length l.initial.rows;
  column : (i : ℕ) → i < l.row → slice_index_or l.rows (i * l.width + l.place) (pos 0) ≡ slice_index_or l.values i (pos 0);
  others : (i j : ℕ) → j < l.width → (j ≡ l.place → ⊥) → slice_index_or l.rows (i * l.width + j) (pos 0) ≡ slice_index_or l.initial.rows (i * l.width + j) (pos 0);
}
