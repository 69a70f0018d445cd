-- Lines of words, and the text that they make.
use Rattle.std.specs.Prelude.{ℕ, ℤ, List, [], ◌∷◌, ◌++◌, map}
use Rattle.std.specs.Fmt.{decimal, signed_decimal}
use Rattle.dx_base.specs.Tokens.Ascii as ascii
use Rattle.dx_base.specs.Words.{quoted, spaced}

-- a word that stands as it is, or a text in quotes
pub data Word : Type 0 where
  bare : List ℕ → Word
  in_quotes : List ℕ → Word

abbrev pub Line : Type 0
Line = List Word

abbrev pub written : Word → List ℕ
written (bare word) = word
written (in_quotes text) = quoted text

-- words separated by one space, and a newline
abbrev pub line_text : Line → List ℕ
line_text words = spaced (map written words) ++ ascii.newline ∷ []

abbrev pub spelled : List Line → List ℕ
spelled [] = []
spelled (l ∷ ls) = line_text l ++ spelled ls

-- a number that isn't negative, and a number, in decimal
abbrev pub count_word : ℕ → Word
count_word n = bare (decimal n)

abbrev pub number_word : ℤ → Word
number_word z = bare (signed_decimal z)
