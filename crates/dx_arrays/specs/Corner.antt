-- The number of one corner of one cell by division, dimension by dimension.
use Rattle.std.specs.Prelude.{ℕ, ◌+◌, ◌-◌, ◌*◌, ◌/◌, ◌%◌, ◌^◌, List, [], ◌∷◌, length}
use Rattle.dx_base.specs.Array.{product, cells}

-- the index of cell i in each dimension, and one more on the far side, which the binary digits of the place tell
abbrev pub corner_at : List ℕ → ℕ → ℕ → ℕ
corner_at [] i p = 0
corner_at (c ∷ cs) i p = (i / product (cells cs) % (c - 1) + p / 2 ^ length cs % 2) * product cs + corner_at cs i p
