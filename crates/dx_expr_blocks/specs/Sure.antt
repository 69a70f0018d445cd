-- Where an operator makes a value at each place.
use Rattle.std.specs.Prelude.{ℕ, ℤ, pos, ◌<◌, List, length, slice_index_or, IsOk}
use Rattle.dx_expr.specs.Value.{Outcome}

-- of the values on the left and those that stand beside them
abbrev pub AreSure : (ℤ → ℤ → Outcome ℤ) → List ℤ → (ℕ → ℤ) → Type 0
AreSure h left right = (k : ℕ) → k < length left → IsOk (h (slice_index_or left k (pos 0)) (right k))
