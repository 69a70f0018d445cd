-- What the sums are that are made in one pass, and how large they get.
use Rattle.std.specs.Prelude.{◌≡◌, ℕ, ◌+◌, ◌*◌, ◌≤◌, ℤ, pos, ◌+ℤ◌, ◌*ℤ◌, ◌≤ℤ◌, List, [], ◌∷◌, length, fold}
use Rattle.std.specs.Int.{int_min, int_max}
use Rattle.dx_arrays.specs.Reach.{IsWithin}
use Rattle.dx_base.specs.ObjectNumbers.{number_value}
use Rattle.dx_objects.specs.Runs.{Values}
use Rattle.dx_stats.specs.declared.sums.Sums.{Sums}
use Rattle.dx_stats.specs.Statistics as spec
use Rattle.dx_stats.specs.Statistics.{add, add_square, mean_by, variance_by, root_of}

-- the most numbers that an array has
abbrev pub most_numbers : ℕ
most_numbers = 16777216

-- the sums of so many numbers, each of which some type of values holds: it is at most 2^32 away from 0
pub record AreHeld (s : Sums) : Type 0 where
  pub few : s.count ≤ 16777216
  pub total : IsWithin (s.count * 4294967296) s.total
  pub some : pos 0 ≤ℤ s.squares
  pub squares : s.squares ≤ℤ pos (s.count * 18446744073709551616)

-- the sums with one number more
pub record IsNext (before : Sums) (v : ℤ) (after : Sums) : Type 0 where
  pub count : after.count ≡ before.count + 1
  pub total : after.total ≡ before.total +ℤ v
  pub squares : after.squares ≡ before.squares +ℤ v *ℤ v
  pub least : after.least ≡ int_min before.least v
  pub greatest : after.greatest ≡ int_max before.greatest v

-- the sums with these numbers too
pub record Adds (before : Sums) (vs : List ℤ) (after : Sums) : Type 0 where
  pub count : after.count ≡ before.count + length vs
  pub total : after.total ≡ fold add before.total vs
  pub squares : after.squares ≡ fold add_square before.squares vs
  pub least : after.least ≡ fold int_min before.least vs
  pub greatest : after.greatest ≡ fold int_max before.greatest vs

-- the sums of these numbers
pub record AreSums (vs : List ℤ) (s : Sums) : Type 0 where
  pub count : s.count ≡ length vs
  pub total : s.total ≡ spec.total vs
  pub squares : s.squares ≡ spec.total_of_squares vs
  pub least : s.least ≡ spec.least vs
  pub greatest : s.greatest ≡ spec.greatest vs

-- a number that isn't negative, and at most m
pub record IsUpTo (m : ℕ) (z : ℤ) : Type 0 where
  pub some : pos 0 ≤ℤ z
  pub few : z ≤ℤ pos m

-- the statistics by the sums
abbrev pub by_variance : Sums → ℤ → Values
by_variance s variance =
    number_value (mean_by s.count s.total) ∷ number_value (root_of variance) ∷ number_value variance
    ∷ number_value s.least ∷ number_value s.greatest ∷ []

abbrev pub by_sums : Sums → Values
by_sums s = by_variance s (variance_by s.count s.total s.squares)
