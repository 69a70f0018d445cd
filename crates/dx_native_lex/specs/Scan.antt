-- The tokens of native files: words, strings and the end, what stands between them, and the numbers of words.
use Rattle.std.specs.Prelude.{ℕ, ◌+◌, Bool, true, false, not, ◌||◌, ◌&&◌, List, [], ◌∷◌, length, take, drop, take_while, Option, Some, None, option_map, ℤ, if◌then◌else◌, ◌==◌}
use Rattle.dx_base.specs.Number as number
use Rattle.dx_base.specs.Tokens.Ascii as ascii
use Rattle.dx_base.specs.Tokens.Classes.{is_digit, is_escape, is_plus_or_minus, begins_digit}
use Rattle.dx_base.specs.Tokens.Reading.{closed_at}
use Rattle.dx_base.specs.Tokens.Spelling.{unescaped}
use Rattle.dx_places.specs.Grammar.{At}
use Rattle.dx_native_lex.specs.declared.scan.Kind.{Kind}
use Rattle.dx_native_lex.specs.declared.scan.Kind.TheVariants as kind

-- A token, where it begins, the bytes of its word or those between its quotes, and the place after it. Where no token
-- stands, the place is that of the byte that is wrong.
pub record Found : Type 0 where
  pub kind : Kind
  pub at : ℕ
  pub content : List ℕ
  pub after : At

abbrev pub comma : ℕ
comma = 44

abbrev pub hash : ℕ
hash = 35

abbrev pub is_white : ℕ → Bool
is_white b = b == ascii.space || b == ascii.tab || b == ascii.carriage_return || b == ascii.newline || b == comma

abbrev pub is_word_byte : ℕ → Bool
is_word_byte b = not (is_white b || b == ascii.quote || b == hash)

-- where white space and comments end; the flag says that a comment is open
unfoldable pub unblanked : Bool → ℕ → List ℕ → At
unblanked open_comment at [] = record { offset = at; rest = [] }
unblanked true at (b ∷ rest) = unblanked (not (b == ascii.newline)) (at + 1) rest
unblanked false at (b ∷ rest) = if is_white b then unblanked false (at + 1) rest else (if b == hash then unblanked true (at + 1) rest else record { offset = at; rest = b ∷ rest })

-- ---- words

abbrev pub word_len : List ℕ → ℕ
word_len text = 1 + length (take_while is_word_byte (drop 1 text))

-- a word of at least one byte
unfoldable pub word_at : ℕ → List ℕ → Found
word_at at text = record { kind = kind.Word; at = at; content = take (word_len text) text; after = record { offset = at + word_len text; rest = drop (word_len text) text } }

-- ---- strings

-- How many bytes are before the first backslash that is before no quote, backslash or n. So many came before; the flag
-- says that a backslash followed them.
unfoldable pub bad_at : ℕ → Bool → List ℕ → Option ℕ
bad_at n true [] = Some n
bad_at n false [] = None
bad_at n true (b ∷ rest) = if is_escape b then bad_at (n + 2) false rest else Some n
bad_at n false (b ∷ rest) = if b == ascii.backslash then bad_at n true rest else bad_at (n + 1) false rest

-- the bytes that the inside of a string stands for; the flag says that a backslash is before them
unfoldable pub meaning_of : Bool → List ℕ → List ℕ
meaning_of escape [] = []
meaning_of true (b ∷ rest) = unescaped b ∷ meaning_of false rest
meaning_of false (b ∷ rest) = if b == ascii.backslash then meaning_of true rest else b ∷ meaning_of false rest

-- nothing is read on from here
abbrev pub no_token : ℕ → Found
no_token at = record { kind = kind.Wrong; at = at; content = []; after = record { offset = at; rest = [] } }

abbrev pub quoted_by : ℕ → List ℕ → ℕ → Option ℕ → Found
quoted_by at text n (Some before) = no_token (at + 1 + before)
quoted_by at text n None = record { kind = kind.Quoted; at = at; content = take n text; after = record { offset = at + 2 + n; rest = drop 1 (drop n text) } }

abbrev pub string_by : ℕ → List ℕ → Option ℕ → Found
string_by at text None = no_token at
string_by at text (Some n) = quoted_by at text n (bad_at 0 false (take n text))

-- A string, after its quote. One that is never closed is wrong at its quote, and one with a bad backslash there.
unfoldable pub quoted_at : ℕ → List ℕ → Found
quoted_at at text = string_by at text (closed_at 0 false text)

unfoldable pub token_at : ℕ → List ℕ → Found
token_at at [] = record { kind = kind.End; at = at; content = []; after = record { offset = at; rest = [] } }
token_at at (b ∷ rest) = if b == ascii.quote then quoted_at at rest else word_at at (b ∷ rest)

-- the next token
unfoldable pub lexed : At → Found
lexed s = let m = unblanked false s.offset s.rest in token_at m.offset m.rest

-- ---- numbers

-- a word that is to be a number, if it is none
abbrev pub is_float : List ℕ → Bool
is_float [] = false
is_float (b ∷ rest) = is_digit b || (is_plus_or_minus b || b == ascii.point) && begins_digit rest

-- The number of a word, if it is one. A number beyond 64 bits counts as the end of these on its side: all that a file may
-- hold lies within.
unfoldable pub number_of : List ℕ → Option ℤ
number_of word = option_map number.nearest_i64 (number.number_of word)
