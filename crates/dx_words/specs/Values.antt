-- The values of options: decimal digits with no sign, of which there are so many at most.
use Rattle.std.specs.Prelude.{ℕ, Bool, ◌&&◌, List, length, Option, Some, None, nat_le, if◌then◌else◌}
use Rattle.std.specs.List.{list_all}
use Rattle.dx_base.specs.Tokens.Classes.{is_digit}
use Rattle.dx_base.specs.Tokens.Spelling.{value_of}

-- one to so many digits, and nothing else
abbrev pub is_number : ℕ → List ℕ → Bool
is_number most v = nat_le 1 (length v) && nat_le (length v) most && list_all is_digit v

-- the number that they write
abbrev pub digits_of : ℕ → List ℕ → Option ℕ
digits_of most v = if is_number most v then Some (value_of v) else None

-- the number, if it is one of these
abbrev pub within : ℕ → ℕ → Option ℕ → Option ℕ
within least greatest None = None
within least greatest (Some n) = if nat_le least n && nat_le n greatest then Some n else None

-- a budget
abbrev pub budget_of : List ℕ → Option ℕ
budget_of v = within 0 1099511627776 (digits_of 13 v)

-- a number of executions
abbrev pub executions_of : List ℕ → Option ℕ
executions_of v = within 1 100000 (digits_of 6 v)
