-- The values of some items in a row, and how many items stand on one line, along which each place grows evenly.
use Rattle.std.specs.Prelude.{◌≡◌, ◌<◌, ◌≤◌, ℕ, ◌/◌, ℤ, pos, negsuc, ◌≤ℤ◌, List, [], ◌∷◌}
use Rattle.std.specs.List.{range_with_len, flat_map}
use Rattle.dx_base.specs.Array.{ArrayData, Class, plain, constant, regular, grid_positions, grid_connections, item, cells}

-- the values of n items from one on, item by item
unfoldable pub values_from : ArrayData → ℕ → ℕ → List ℤ
values_from a first n = flat_map (item a) (range_with_len first n)

-- the last of some counts
abbrev pub last_count : List ℕ → ℕ
last_count [] = 1
last_count (c ∷ []) = c
last_count (c ∷ d ∷ cs) = last_count (d ∷ cs)

-- how many items stand on one line: all of a regular array, and in a grid those along its last dimension
abbrev pub line_len : Class → ℕ
line_len (plain vs) = 1
line_len (constant n v) = n
line_len (regular n o d) = n
line_len (grid_positions cs o ds) = last_count cs
line_len (grid_connections cs) = last_count (cells cs)

-- both items stand on one line
abbrev pub IsOnLine : ArrayData → ℕ → ℕ → Type 0
IsOnLine a i j = i / line_len a.class ≡ j / line_len a.class

-- and all items from one on, up to another
abbrev pub AreOnLine : ArrayData → ℕ → ℕ → Type 0
AreOnLine a first end = (i : ℕ) → first ≤ i → i < end → IsOnLine a first i

-- a number that some type of values holds
pub record IsSmall (z : ℤ) : Type 0 where
  pub low : negsuc 2147483647 ≤ℤ z
  pub high : z ≤ℤ pos 4294967295
