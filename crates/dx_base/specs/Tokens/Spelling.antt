-- Which bytes are which token. The bytes behind a token are named beside, since a token is as long as it can be.
use Rattle.std.specs.Prelude.{◌≡◌, ◌⊎◌, ℕ, ◌*◌, ◌+◌, ◌-◌, ◌≤◌, ◌<◌, Bool, true, false, not, List, [], ◌∷◌, ◌++◌, length, fold, replicate, Option, Some, None, ℤ, pos, negsuc, neg_ℤ, ◌≤ℤ◌, ◌==◌, ◌||◌, if◌then◌else◌, codes}
use Rattle.dx_base.specs.Tokens.Ascii as ascii
use Rattle.dx_base.specs.declared.token.LexKind.{LexKind}
use Rattle.dx_base.specs.declared.token.LexKind.TheVariants as kind
use Rattle.dx_base.specs.Tokens.Classes.{is_digit, is_zero, is_name_start, is_name_byte, is_escape, is_sign, is_in_line, Each, Stops, begins, begins_two, begins_float}

-- ---- names and frames

-- a letter or '_', and then letters, digits and '_'
abbrev pub IsWord : List ℕ → Type 0
IsWord [] = ⊥
IsWord (b ∷ more) = (is_name_start b ≡ true) × Each is_name_byte more

abbrev pub max_name : ℕ
max_name = 255

-- the words that name a frame behind an '@'
pub data IsFrame : List ℕ → Type 0 where
  startframe : IsFrame (codes "startframe")
  endframe : IsFrame (codes "endframe")
  deltaframe : IsFrame (codes "deltaframe")
  nextframe : IsFrame (codes "nextframe")
  frame : IsFrame (codes "frame")

-- ---- integers

pub data Sign : Type 0 where
  Unsigned : Sign
  Plus : Sign
  Minus : Sign

-- a sign or none, digits, and perhaps a point and this many zeros
pub record Numeral : Type 0 where
  pub sign : Sign
  pub digits : List ℕ
  pub fraction : Option ℕ

abbrev pub sign_bytes : Sign → List ℕ
sign_bytes Unsigned = []
sign_bytes Plus = ascii.plus ∷ []
sign_bytes Minus = ascii.minus ∷ []

abbrev pub fraction_bytes : Option ℕ → List ℕ
fraction_bytes None = []
fraction_bytes (Some zeros) = ascii.point ∷ replicate zeros ascii.zero_digit

abbrev pub numeral_bytes : Numeral → List ℕ
numeral_bytes n = sign_bytes n.sign ++ (n.digits ++ fraction_bytes n.fraction)

-- No more digits follow, and no point does but before another one.
abbrev pub EndsFraction : Option ℕ → List ℕ → Type 0
EndsFraction None behind = Stops is_digit behind × (begins ascii.point behind ≡ true → begins_two ascii.point behind ≡ true)
EndsFraction (Some zeros) behind = Stops is_zero behind × (zeros ≡ 0 → begins ascii.point behind ≡ false)

-- the longest numeral in front of these bytes
pub record IsNumeral (n : Numeral) (behind : List ℕ) : Type 0 where
  pub some : 0 < length n.digits
  pub digits : Each is_digit n.digits
  pub end : EndsFraction n.fraction behind

abbrev pub add_digit : ℕ → ℕ → ℕ
add_digit n b = 10 * n + (b - ascii.zero_digit)

-- the number of the digits
abbrev pub value_of : List ℕ → ℕ
value_of digits = fold add_digit 0 digits

abbrev pub signed : Sign → ℕ → ℤ
signed Minus n = neg_ℤ (pos n)
signed _ n = pos n

abbrev pub value : Numeral → ℤ
value n = signed n.sign (value_of n.digits)

abbrev pub IsInt : ℤ → Type 0
IsInt v = (negsuc 2147483647 ≤ℤ v) × (v ≤ℤ pos 2147483647)

-- ---- strings

-- a byte of a string, or a backslash and a byte
pub data Item : Type 0 where
  Plain : ℕ → Item
  Escaped : ℕ → Item

abbrev pub item_bytes : List Item → List ℕ
item_bytes [] = []
item_bytes (Plain b ∷ more) = b ∷ item_bytes more
item_bytes (Escaped b ∷ more) = ascii.backslash ∷ b ∷ item_bytes more

-- a byte that stands for itself: no quote, no backslash and no newline
abbrev pub is_plain : ℕ → Bool
is_plain b = not (b == ascii.quote || b == ascii.backslash || b == ascii.newline)

abbrev pub AreItems : List Item → Type 0
AreItems [] = Unit {0}
AreItems (Plain b ∷ more) = (is_plain b ≡ true) × AreItems more
AreItems (Escaped b ∷ more) = (is_in_line b ≡ true) × AreItems more

-- each backslash is before a quote, a backslash or an 'n'
abbrev pub AreGood : List Item → Type 0
AreGood [] = Unit {0}
AreGood (Plain b ∷ more) = AreGood more
AreGood (Escaped b ∷ more) = (is_escape b ≡ true) × AreGood more

-- a backslash and an 'n' stand for a newline
abbrev pub unescaped : ℕ → ℕ
unescaped b = if b == ascii.letter_n then ascii.newline else b

-- the bytes that they stand for
abbrev pub meaning : List Item → List ℕ
meaning [] = []
meaning (Plain b ∷ more) = b ∷ meaning more
meaning (Escaped b ∷ more) = unescaped b ∷ meaning more

-- ---- signs

-- one of the single signs, '->' or '..'
abbrev pub IsSign : List ℕ → Type 0
IsSign sign = ((b : ℕ) × (sign ≡ b ∷ []) × (is_sign b ≡ true)) ⊎ ((sign ≡ codes "->") ⊎ (sign ≡ codes ".."))

-- ---- tokens

pub record IsName (name behind : List ℕ) : Type 0 where
  pub word : IsWord name
  pub short : length name ≤ max_name
  pub end : Stops is_name_byte behind

-- behind its '@'
pub record IsFrameWord (word behind : List ℕ) : Type 0 where
  pub frame : IsFrame word
  pub end : Stops is_name_byte behind

pub record IsInteger (v : ℤ) (bytes behind : List ℕ) : Type 0 where
  pub numeral : Numeral
  pub spelled : bytes ≡ numeral_bytes numeral
  pub longest : IsNumeral numeral behind
  pub whole : begins_float behind ≡ false
  pub same : value numeral ≡ v
  pub in_range : IsInt v

pub record IsString (text bytes : List ℕ) : Type 0 where
  pub items : List Item
  pub spelled : bytes ≡ ascii.quote ∷ (item_bytes items ++ ascii.quote ∷ [])
  pub lawful : AreItems items
  pub good : AreGood items
  pub same : meaning items ≡ text

-- These bytes are a token of this kind, in front of those behind.
abbrev pub IsToken : LexKind → List ℕ → List ℕ → Type 0
IsToken kind.End bytes behind = (bytes ≡ []) × (behind ≡ [])
IsToken (kind.Name name) bytes behind = (bytes ≡ name) × IsName name behind
IsToken (kind.Int v) bytes behind = IsInteger v bytes behind
IsToken (kind.Text text) bytes behind = IsString text bytes
IsToken (kind.Frame spelled) bytes behind = (bytes ≡ spelled) × (word : List ℕ) × (spelled ≡ ascii.at_sign ∷ word) × IsFrameWord word behind
IsToken (kind.Sign sign) bytes behind = (bytes ≡ sign) × IsSign sign
