-- Which words are numbers, and of which value.
use Rattle.std.specs.Prelude.{◌≡◌, ℕ, ℤ, ◌<◌, ◌≤ℤ◌, ◌<ℤ◌, List, length}
use Rattle.dx_base.specs.Tokens.Classes.{is_digit, Each}
use Rattle.dx_base.specs.Tokens.Spelling.{Numeral, numeral_bytes, value}
use Rattle.dx_base.specs.Number.{least_i64, greatest_i64}

-- a sign or none, digits, and then nothing or a point with any number of zeros
pub record IsNumber (word : List ℕ) (v : ℤ) : Type 0 where
  pub numeral : Numeral
  pub spelled : word ≡ numeral_bytes numeral
  pub some : 0 < length numeral.digits
  pub digits : Each is_digit numeral.digits
  pub same : value numeral ≡ v

-- A number that fits in 64 bits is itself; one beyond is the end of these on its side.
pub record IsNearest (v z : ℤ) : Type 0 where
  pub within : least_i64 ≤ℤ v → v ≤ℤ greatest_i64 → z ≡ v
  pub below : v <ℤ least_i64 → z ≡ least_i64
  pub above : greatest_i64 <ℤ v → z ≡ greatest_i64

-- the number of a word, in 64 bits
pub record IsNumberOf (word : List ℕ) (z : ℤ) : Type 0 where
  pub value : ℤ
  pub number : IsNumber word value
  pub nearest : IsNearest value z
