-- The token at a place of a text as a function, which contracts cite.
use Rattle.std.specs.Prelude.{◌≡◌, ℕ, ◌+◌, Bool, true, false, not, ◌==◌, ◌||◌, ◌&&◌, nat_lt, nat_le, List, [], ◌∷◌, ◌++◌, length, take, drop, Option, Some, None, Result, Ok, Err, ℤ, pos, neg_ℤ, if◌then◌else◌, codes}
use Rattle.std.specs.List.{prefix_len}
use Rattle.std.specs.Str.{bytes_eq}
use Rattle.dx_base.specs.Tokens.Ascii as ascii
use Rattle.dx_base.specs.declared.token.Place.{Place}
use Rattle.dx_base.specs.declared.token.Lexeme.{Lexeme}
use Rattle.dx_base.specs.declared.token.LexKind.{LexKind}
use Rattle.dx_base.specs.declared.token.LexKind.TheVariants as kind
use Rattle.dx_base.specs.declared.token.SyntaxKind.{SyntaxKind}
use Rattle.dx_base.specs.declared.token.SyntaxKind.TheVariants as fault
use Rattle.dx_base.specs.declared.token.SyntaxError.{SyntaxError}
use Rattle.dx_base.specs.Tokens.Places.{first, behind, along, error_at}
use Rattle.dx_base.specs.Tokens.Spelling.{max_name, value_of, unescaped}
use Rattle.dx_base.specs.Tokens.Classes.{is_white, is_digit, is_zero, is_plus_or_minus, is_name_start, is_name_byte, is_escape, is_sign, begins, begins_two, begins_digit, begins_float}

-- A token and how many bytes it has, or the kind of the fault and how many bytes are before it.
abbrev pub Front : Type 0
Front = Result (LexKind × ℕ) (SyntaxKind × ℕ)

-- ---- gaps

-- Where a gap ends, and what is left there. In a fresh line only white space has come; passing says that the rest of
-- the line is passed over.
unfoldable pub after_gap : Bool → Bool → Place → List ℕ → Place × List ℕ
after_gap fresh passing at [] = (at, [])
after_gap fresh true at (b ∷ rest) = if b == ascii.newline then after_gap true false (behind at b) rest else after_gap fresh true (behind at b) rest
after_gap fresh false at (b ∷ rest) =
    if is_white b then after_gap (fresh || b == ascii.newline) false (behind at b) rest
    else if fresh && b == ascii.dollar || b == ascii.slash && begins ascii.slash rest then after_gap fresh true (behind at b) rest
    else (at, b ∷ rest)

-- ---- names and frames

-- the longest name
unfoldable pub name_front : List ℕ → Front
name_front text =
    if nat_lt max_name (prefix_len is_name_byte text) then Err (fault.Syntax, 0)
    else Ok (kind.Name (take (prefix_len is_name_byte text) text), prefix_len is_name_byte text)

abbrev pub is_frame : List ℕ → Bool
is_frame word =
    bytes_eq word (codes "startframe") || bytes_eq word (codes "endframe") || bytes_eq word (codes "deltaframe")
    || bytes_eq word (codes "nextframe") || bytes_eq word (codes "frame")

-- behind an '@', the word that names a frame
abbrev pub frame_of : List ℕ → Front
frame_of word = if is_frame word then Ok (kind.Frame (ascii.at_sign ∷ word), 1 + length word) else Err (fault.Syntax, 0)

unfoldable pub frame_front : List ℕ → Front
frame_front text = frame_of (take (prefix_len is_name_byte text) text)

-- ---- integers

abbrev pub int_limit : ℕ
int_limit = 2147483648

-- the int of a sign and digits, if it is one
abbrev pub int_value : Bool → List ℕ → Option ℤ
int_value true digits = if nat_le (value_of digits) int_limit then Some (neg_ℤ (pos (value_of digits))) else None
int_value false digits = if nat_lt (value_of digits) int_limit then Some (pos (value_of digits)) else None

-- how many bytes a point and zeros have behind the digits; none where two points follow
unfoldable pub fraction_len : List ℕ → ℕ
fraction_len text =
    if begins_two ascii.point text then 0
    else if begins ascii.point text then 1 + prefix_len is_zero (drop 1 text)
    else 0

abbrev pub int_of : Option ℤ → ℕ → Front
int_of (Some value) n = Ok (kind.Int value, n)
int_of None n = Err (fault.NumberRange, 0)

-- the number of these digits, before of its bytes being before them, and this many of a fraction behind them
abbrev pub number_of : Bool → ℕ → List ℕ → ℕ → List ℕ → Front
number_of negative before digits n rest =
    if begins_float (drop n rest) then Err (fault.FloatNumber, 0)
    else int_of (int_value negative digits) (before + length digits + n)

abbrev pub number_by : Bool → ℕ → List ℕ → List ℕ → Front
number_by negative before digits rest = number_of negative before digits (fraction_len rest) rest

-- the number that begins with digits behind its sign, if it has one
unfoldable pub number_front : Bool → ℕ → List ℕ → Front
number_front negative before text =
    number_by negative before (take (prefix_len is_digit text) text) (drop (prefix_len is_digit text) text)

-- ---- strings

-- How many bytes are before the closing quote, if it comes in this line. So many came before, and the flag says that
-- a backslash was the last of them.
unfoldable pub closed_at : ℕ → Bool → List ℕ → Option ℕ
closed_at n escape [] = None
closed_at n escape (b ∷ rest) =
    if b == ascii.newline then None
    else if b == ascii.quote && not escape then Some n
    else closed_at (n + 1) (b == ascii.backslash && not escape) rest

-- The bytes that the inside of a string stands for, or how many are before the backslash that is bad. Found is what
-- the n bytes before stand for, and the flag says that a backslash followed these.
unfoldable pub text_from : List ℕ → ℕ → Bool → List ℕ → Result (List ℕ) ℕ
text_from found n true [] = Err n
text_from found n false [] = Ok found
text_from found n true (b ∷ rest) = if is_escape b then text_from (found ++ unescaped b ∷ []) (n + 2) false rest else Err n
text_from found n false (b ∷ rest) = if b == ascii.backslash then text_from found n true rest else text_from (found ++ b ∷ []) (n + 1) false rest

abbrev pub string_of : ℕ → Result (List ℕ) ℕ → Front
string_of n (Ok found) = Ok (kind.Text found, n + 2)
string_of n (Err before) = Err (fault.Syntax, 1 + before)

abbrev pub string_by : Option ℕ → List ℕ → Front
string_by None text = Err (fault.Syntax, 0)
string_by (Some n) text = string_of n (text_from [] 0 false (take n text))

-- the string behind its opening quote
unfoldable pub string_front : List ℕ → Front
string_front text = string_by (closed_at 0 false text) text

-- ---- tokens

-- how many bytes the sign has that a text begins with, '->' and '..' among them
abbrev pub sign_len : List ℕ → ℕ
sign_len [] = 0
sign_len (b ∷ rest) =
    if is_sign b then 1
    else if b == ascii.minus && begins ascii.greater rest || b == ascii.point && begins ascii.point rest then 2
    else 0

abbrev pub sign_of : ℕ → List ℕ → Front
sign_of n text = if n == 0 then Err (fault.Syntax, 0) else Ok (kind.Sign (take n text), n)

abbrev pub sign_front : List ℕ → Front
sign_front text = sign_of (sign_len text) text

-- what a text begins with, where no gap stands
unfoldable pub front : List ℕ → Front
front [] = Ok (kind.End, 0)
front (b ∷ rest) =
    if is_name_start b then name_front (b ∷ rest)
    else if is_digit b then number_front false 0 (b ∷ rest)
    else if is_plus_or_minus b && begins_digit rest then number_front (b == ascii.minus) 1 rest
    else if b == ascii.point && begins_digit rest then Err (fault.FloatNumber, 0)
    else if b == ascii.quote then string_front rest
    else if b == ascii.at_sign then frame_front rest
    else sign_front (b ∷ rest)

-- at its place
abbrev pub placed : Place → Front → Result Lexeme SyntaxError
placed from (Ok found) = Ok (record { kind = found.0; from = from; to = along from found.1 })
placed from (Err wrong) = Err (error_at wrong.0 (along from wrong.1))

abbrev pub lexeme_behind : Place × List ℕ → Result Lexeme SyntaxError
lexeme_behind gap = placed gap.0 (front gap.1)

-- The token behind the gap at this place of a text, or its error. Only at its beginning is the line fresh there.
unfoldable pub lexeme_at : List ℕ → Place → Result Lexeme SyntaxError
lexeme_at text at = lexeme_behind (after_gap (at.offset == 0) false at (drop at.offset text))

-- The start of a text, and the end of each token of it that a reading from the start comes to.
pub data IsReached (text : List ℕ) : Place → Type 0 where
  start : IsReached text first
  behind_token : (at : Place) (found : Lexeme) → IsReached text at → lexeme_at text at ≡ Ok found → IsReached text found.to
