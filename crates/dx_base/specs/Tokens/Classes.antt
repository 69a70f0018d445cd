-- Classes of bytes, and what a text begins with.
use Rattle.dx_base.specs.Tokens.Ascii as ascii
use Rattle.std.specs.Prelude.{◌≡◌, ℕ, Bool, true, false, not, List, [], ◌∷◌, ◌==◌, ◌||◌, ◌&&◌}
use Rattle.std.specs.Char.{is_ascii_digit, is_ascii_alphabetic}

-- space, tab, carriage return and newline
abbrev pub is_white : ℕ → Bool
is_white b = b == ascii.space || b == ascii.tab || b == ascii.carriage_return || b == ascii.newline

abbrev pub is_digit : ℕ → Bool
is_digit b = is_ascii_digit b

abbrev pub is_zero : ℕ → Bool
is_zero b = b == ascii.zero_digit

-- '+' and '-'
abbrev pub is_plus_or_minus : ℕ → Bool
is_plus_or_minus b = b == ascii.plus || b == ascii.minus

-- a letter or '_'
abbrev pub is_name_start : ℕ → Bool
is_name_start b = is_ascii_alphabetic b || b == ascii.underscore

-- a letter, a digit or '_'
abbrev pub is_name_byte : ℕ → Bool
is_name_byte b = is_name_start b || is_digit b

-- the byte behind a backslash in a string: a quote, a backslash or 'n'
abbrev pub is_escape : ℕ → Bool
is_escape b = b == ascii.quote || b == ascii.backslash || b == ascii.letter_n

-- any byte but a newline
abbrev pub is_in_line : ℕ → Bool
is_in_line b = not (b == ascii.newline)

-- ';' '=' '(' ')' ',' '[' ']' '{' '}' ':'
abbrev pub is_sign : ℕ → Bool
is_sign b = b == 59 || b == 61 || b == 40 || b == 41 || b == 44 || b == 91 || b == 93 || b == 123 || b == 125 || b == 58

-- each of the bytes is of the class
abbrev pub Each : (ℕ → Bool) → List ℕ → Type 0
Each class [] = Unit {0}
Each class (b ∷ rest) = (class b ≡ true) × Each class rest

-- the next byte, if there is one, isn't of the class
abbrev pub Stops : (ℕ → Bool) → List ℕ → Type 0
Stops class [] = Unit {0}
Stops class (b ∷ rest) = class b ≡ false

abbrev pub begins : ℕ → List ℕ → Bool
begins c [] = false
begins c (b ∷ rest) = b == c

abbrev pub begins_two : ℕ → List ℕ → Bool
begins_two c [] = false
begins_two c (b ∷ rest) = b == c && begins c rest

abbrev pub begins_digit : List ℕ → Bool
begins_digit [] = false
begins_digit (b ∷ rest) = is_digit b

-- a digit, behind a sign or not
abbrev pub begins_signed : List ℕ → Bool
begins_signed [] = false
begins_signed (b ∷ rest) = is_digit b || is_plus_or_minus b && begins_digit rest

-- 'e' or 'E', a sign or none, and a digit
abbrev pub begins_exponent : List ℕ → Bool
begins_exponent [] = false
begins_exponent (b ∷ rest) = (b == 101 || b == 69) && begins_signed rest

-- what makes the digits before it a number that isn't whole: a further digit, or an exponent
abbrev pub begins_float : List ℕ → Bool
begins_float rest = begins_digit rest || begins_exponent rest
