-- Runs of digits, as the fast reading of a number goes over them.
use Rattle.std.specs.Prelude.{ℕ, Bool, true, false, not, cond, List, [], ◌∷◌, ◌==◌, if◌then◌else◌}
use Rattle.dx_base.specs.Tokens.Classes.{is_digit}
use Rattle.dx_base.specs.Tokens.Spelling.{add_digit}
use Rattle.dx_native_lex.specs.Scan.{is_word_byte}

-- the number of the digits in front, behind a number, and what is behind them
unfoldable pub run : ℕ → List ℕ → ℕ × List ℕ
run n [] = (n, [])
run n (b ∷ rest) = cond (is_digit b) (run (add_digit n b) rest) (n, b ∷ rest)

-- a word ends here
abbrev pub ends_word : List ℕ → Bool
ends_word [] = true
ends_word (b ∷ rest) = not (is_word_byte b)

-- a minus comes first; and what is behind it, if it does
abbrev pub is_negative : List ℕ → Bool
is_negative [] = false
is_negative (b ∷ rest) = b == 45

abbrev pub unsigned : List ℕ → List ℕ
unsigned [] = []
unsigned (b ∷ rest) = if b == 45 then rest else b ∷ rest
