-- Numbers as native files write them: a sign or none, digits, and behind them a point with zeros or nothing.
use Rattle.std.specs.Prelude.{ℕ, ℤ, pos, neg_ℤ, Bool, true, false, ◌==◌, ◌&&◌, List, [], ◌∷◌, take, drop, Option, Some, None, int_le, if◌then◌else◌}
use Rattle.std.specs.List.{list_all, prefix_len}
use Rattle.dx_base.specs.Tokens.Classes.{is_digit, is_zero, is_plus_or_minus}
use Rattle.dx_base.specs.Tokens.Spelling.{value_of}

-- nothing, or a point and any number of zeros
abbrev pub is_fraction : List ℕ → Bool
is_fraction [] = true
is_fraction (b ∷ zeros) = b == 46 && list_all is_zero zeros

abbrev pub signed : Bool → ℕ → ℤ
signed true n = neg_ℤ (pos n)
signed false n = pos n

-- the number of some digits and what follows them
abbrev pub number_with : Bool → List ℕ → List ℕ → Option ℤ
number_with negative [] rest = None
number_with negative (d ∷ ds) rest = if is_fraction rest then Some (signed negative (value_of (d ∷ ds))) else None

-- the number behind its sign
unfoldable pub number_behind : Bool → List ℕ → Option ℤ
number_behind negative s = number_with negative (take (prefix_len is_digit s) s) (drop (prefix_len is_digit s) s)

-- the number that a word spells, if it is one
unfoldable pub number_of : List ℕ → Option ℤ
number_of [] = None
number_of (b ∷ rest) = if is_plus_or_minus b then number_behind (b == 45) rest else number_behind false (b ∷ rest)

abbrev pub least_i64 : ℤ
least_i64 = neg_ℤ (pos 9223372036854775808)

abbrev pub greatest_i64 : ℤ
greatest_i64 = pos 9223372036854775807

abbrev pub is_i64 : ℤ → Bool
is_i64 z = int_le least_i64 z && int_le z greatest_i64

-- the number, if an i64 holds it
abbrev pub as_i64 : Option ℤ → Option ℤ
as_i64 None = None
as_i64 (Some z) = if is_i64 z then Some z else None

-- the number, or the end of the i64 on its side
abbrev pub nearest_i64 : ℤ → ℤ
nearest_i64 z = if int_le z least_i64 then least_i64 else if int_le greatest_i64 z then greatest_i64 else z
