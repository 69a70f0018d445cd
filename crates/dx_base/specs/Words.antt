-- The words of the canonical text: words on a line, numbers, types, and texts in quotes.
use Rattle.std.specs.Prelude.{ℕ, ℤ, List, [], ◌∷◌, ◌++◌, ◌==◌, map, codes, if◌then◌else◌}
use Rattle.std.specs.Fmt.{decimal, signed_decimal}
use Rattle.dx_base.specs.Tokens.Ascii as ascii
use Rattle.dx_base.specs.declared.elem.ElemType.{ElemType}
use Rattle.dx_base.specs.declared.elem.ElemType.TheVariants.{Byte, UByte, Short, UShort, Int, UInt}

-- each word behind a space
abbrev pub behind : List (List ℕ) → List ℕ
behind [] = []
behind (w ∷ ws) = ascii.space ∷ w ++ behind ws

-- words separated by one space
abbrev pub spaced : List (List ℕ) → List ℕ
spaced [] = []
spaced (w ∷ ws) = w ++ behind ws

-- a byte of a text as it stands between quotes
abbrev pub escaped : ℕ → List ℕ
escaped b =
    if b == ascii.quote then ascii.backslash ∷ ascii.quote ∷ []
    else if b == ascii.backslash then ascii.backslash ∷ ascii.backslash ∷ []
    else if b == ascii.newline then ascii.backslash ∷ ascii.letter_n ∷ []
    else b ∷ []

abbrev pub all_escaped : List ℕ → List ℕ
all_escaped [] = []
all_escaped (b ∷ bs) = escaped b ++ all_escaped bs

abbrev pub quoted : List ℕ → List ℕ
quoted text = ascii.quote ∷ all_escaped text ++ ascii.quote ∷ []

-- counts, each behind a space
abbrev pub counts_behind : List ℕ → List ℕ
counts_behind ns = behind (map decimal ns)

-- numbers, each behind a space, and numbers separated by one space
abbrev pub numbers_behind : List ℤ → List ℕ
numbers_behind ns = behind (map signed_decimal ns)

abbrev pub spaced_numbers : List ℤ → List ℕ
spaced_numbers ns = spaced (map signed_decimal ns)

abbrev pub type_word : ElemType → List ℕ
type_word Byte = codes "signed byte"
type_word UByte = codes "unsigned byte"
type_word Short = codes "short"
type_word UShort = codes "unsigned short"
type_word Int = codes "int"
type_word UInt = codes "unsigned int"
