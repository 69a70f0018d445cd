-- How far the next frame can lie outside the ints.
use Rattle.std.specs.Prelude.{ℤ, pos, negsuc, ◌≤ℤ◌}

-- a delta is at least 1, and next is an int or lies beyond one by at most the greatest delta
pub record IsBounded (delta next : ℤ) : Type 0 where
  pub some : pos 1 ≤ℤ delta
  pub low : negsuc 4294967295 ≤ℤ next
  pub high : next ≤ℤ pos 4294967296
