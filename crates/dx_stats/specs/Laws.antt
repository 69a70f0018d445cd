-- Laws of sums: those of the largest arrays are in 128 bits.
use Rattle.std.specs.Prelude.{ℕ, ◌-◌, ◌*◌, ◌^◌, ◌≤◌, ℤ, pos, ◌-ℤ◌, ◌*ℤ◌, List, length}
use Rattle.std.specs.List.{All}
use Rattle.dx_base.specs.Array.{ArrayData}
use Rattle.dx_base.specs.ArrayLimits.{IsLawfulArray, max_values}
use Rattle.dx_arrays.specs.Block.{IsSmall}
use Rattle.dx_arrays.specs.Reach.{IsWithin}
use Rattle.dx_stats.specs.Numbers.{numbers}
use Rattle.dx_stats.specs.Statistics.{total, total_of_squares}

-- the greatest number of 128 bits
abbrev pub greatest_wide : ℕ
greatest_wide = 2 ^ 127 - 1

-- the sum of some numbers, the sum of their squares, and what the variance takes of these are in 128 bits
pub record SumsFit (vs : List ℤ) : Type 0 where
  pub sum : IsWithin greatest_wide (total vs)
  pub squares : IsWithin greatest_wide (total_of_squares vs)
  pub scaled_squares : IsWithin greatest_wide (pos (length vs) *ℤ total_of_squares vs)
  pub squared_sum : IsWithin greatest_wide (total vs *ℤ total vs)
  pub spread : IsWithin greatest_wide (pos (length vs) *ℤ total_of_squares vs -ℤ total vs *ℤ total vs)
  pub divisor : length vs * length vs ≤ greatest_wide

-- so it is of as many numbers as an array may have values, where some type of values holds each
abbrev pub SumsOfNumbersFit : Type 0
SumsOfNumbersFit = (vs : List ℤ) → length vs ≤ max_values → All IsSmall vs → SumsFit vs

-- and so of the numbers of each array
abbrev pub SumsOfArraysFit : Type 0
SumsOfArraysFit = (a : ArrayData) → IsLawfulArray a → SumsFit (numbers a)
