-- The tokens of a text: the longest sign or run of digits at each place, with spaces and tabs between them.
use Rattle.std.specs.Prelude.{ℕ, zero, suc, ◌+◌, ◌-◌, ◌*◌, ◌==◌, ◌||◌, ◌&&◌, min, nat_eq, nat_lt, nat_le, Bool, false, List, [], ◌∷◌, length, codes, fold, Option, Some, None, if◌then◌else◌}
use Rattle.std.specs.List.{starts_with, take_while, prefix_len}
use Rattle.dx_expr_grammar.specs.declared.token.Token.{Token}
use Rattle.dx_expr_grammar.specs.declared.token.TokenKind.{TokenKind}
use Rattle.dx_expr_grammar.specs.declared.token.TokenKind.TheVariants as kind
use Rattle.dx_expr_grammar.specs.declared.token.Sign.{Sign}
use Rattle.dx_expr_grammar.specs.declared.token.Sign.TheVariants as sign
use Rattle.dx_grammar.specs.Stream.{Stream}

-- a text's tokens; a fault is the offset of the byte where it stands
abbrev pub Tokens : Type 0
Tokens = Stream Token ℕ

-- ---- signs

-- how a sign is written
abbrev pub spelling : Sign → List ℕ
spelling sign.Question = codes "?"
spelling sign.Colon = codes ":"
spelling sign.Or = codes "||"
spelling sign.And = codes "&&"
spelling sign.Equal = codes "=="
spelling sign.NotEqual = codes "!="
spelling sign.Less = codes "<"
spelling sign.LessEqual = codes "<="
spelling sign.Greater = codes ">"
spelling sign.GreaterEqual = codes ">="
spelling sign.Plus = codes "+"
spelling sign.Minus = codes "-"
spelling sign.Times = codes "*"
spelling sign.Over = codes "/"
spelling sign.Percent = codes "%"
spelling sign.Not = codes "!"
spelling sign.Dot = codes "."
spelling sign.Dollar = codes "$"
spelling sign.Open = codes "("
spelling sign.Close = codes ")"
spelling sign.OpenVector = codes "["
spelling sign.CloseVector = codes "]"
spelling sign.Comma = codes ","
spelling sign.Abs = codes "abs"
spelling sign.SignOf = codes "sign"
spelling sign.Min = codes "min"
spelling sign.Max = codes "max"
spelling sign.DotProduct = codes "dot"

-- all signs, the longer ones before the shorter ones
abbrev pub signs : List Sign
signs =
    sign.SignOf ∷ sign.Abs ∷ sign.Min ∷ sign.Max ∷ sign.DotProduct
    ∷ sign.Or ∷ sign.And ∷ sign.Equal ∷ sign.NotEqual ∷ sign.LessEqual ∷ sign.GreaterEqual
    ∷ sign.Question ∷ sign.Colon ∷ sign.Less ∷ sign.Greater ∷ sign.Plus ∷ sign.Minus ∷ sign.Times ∷ sign.Over ∷ sign.Percent ∷ sign.Not
    ∷ sign.Dot ∷ sign.Dollar ∷ sign.Open ∷ sign.Close ∷ sign.OpenVector ∷ sign.CloseVector ∷ sign.Comma ∷ []

-- the first of these signs with which the text begins
abbrev pub first_of_signs : List Sign → List ℕ → Option Sign
first_of_signs [] text = None
first_of_signs (s ∷ more) text = if starts_with nat_eq text (spelling s) then Some s else first_of_signs more text

-- ---- digits

abbrev pub is_blank : ℕ → Bool
is_blank b = (b == 32) || (b == 9)

abbrev pub is_digit : ℕ → Bool
is_digit b = nat_le 48 b && nat_le b 57

abbrev pub with_digit : ℕ → ℕ → ℕ
with_digit n b = 10 * n + (b - 48)

abbrev pub value_of : List ℕ → ℕ
value_of digits = fold with_digit 0 digits

-- the least number above the int range
abbrev pub beyond : ℕ
beyond = 2147483648

-- ---- texts

-- what stands at a place: white space, a token with as many further bytes, or nothing that is a token
pub data Piece : Type 0 where
  Blank : Piece
  Word : TokenKind → ℕ → Piece
  Unknown : Piece

abbrev pub sign_piece : Option Sign → Piece
sign_piece None = Unknown
sign_piece (Some s) = Word (kind.Sign s) (length (spelling s) - 1)

-- a run of digits, whose first is b
abbrev pub digits_piece : ℕ → List ℕ → Piece
digits_piece b rest = Word (kind.Digits (min (value_of (b ∷ take_while is_digit rest)) beyond)) (prefix_len is_digit rest)

-- a text of at least one byte begins so
abbrev pub piece : ℕ → List ℕ → Piece
piece b rest = if is_blank b then Blank else (if is_digit b then digits_piece b rest else sign_piece (first_of_signs signs (b ∷ rest)))

abbrev pub further : Piece → ℕ
further Blank = 0
further (Word k more) = more
further Unknown = 0

-- the bytes of a text that are looked at
abbrev pub max_text : ℕ
max_text = 4096

-- where no token goes on
abbrev pub stopped : ℕ → Tokens
stopped at = record { tokens = []; stop = min at max_text; whole = false }

-- the text's end
abbrev pub ended : ℕ → Tokens
ended at = record { tokens = []; stop = min at max_text; whole = nat_le at max_text }

abbrev pub with_token : Token → Tokens → Tokens
with_token t s = record s { tokens = t ∷ s.tokens }

-- a piece at this offset, and the tokens behind it
abbrev pub laid : Piece → ℕ → Tokens → Tokens
laid Blank at s = s
laid (Word k more) at s = if nat_lt at max_text then with_token (record { kind = k; at = at }) s else stopped at
laid Unknown at s = stopped at

-- The tokens of what is left of a text from the offset `at` on, where as many of its bytes still belong to the token before.
unfoldable pub tokens_from : ℕ → ℕ → List ℕ → Tokens
tokens_from inside at [] = ended at
tokens_from (suc inside) at (b ∷ rest) = tokens_from inside (at + 1) rest
tokens_from zero at (b ∷ rest) = laid (piece b rest) at (tokens_from (further (piece b rest)) (at + 1) rest)

-- The tokens of a text. One of more than 4,096 bytes is cut there, and isn't whole.
abbrev pub tokens_of : List ℕ → Tokens
tokens_of text = tokens_from 0 0 text
