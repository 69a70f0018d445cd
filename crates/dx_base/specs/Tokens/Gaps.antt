-- What stands between tokens: white space, comments, and lines that begin with a dollar sign.
use Rattle.std.specs.Prelude.{◌≡◌, ℕ, Bool, true, false, ◌==◌, ◌||◌, List, [], ◌∷◌, ◌++◌}
use Rattle.dx_base.specs.Tokens.Ascii as ascii
use Rattle.dx_base.specs.Tokens.Classes.{is_white, is_in_line, Each, Stops, begins}

-- A byte of white space, a comment, or a line that is skipped. Of the last two the bytes are those behind the two
-- slashes, and behind the dollar sign.
pub data Piece : Type 0 where
  White : ℕ → Piece
  Comment : List ℕ → Piece
  Skipped : List ℕ → Piece

-- the bytes of pieces
abbrev pub gap_bytes : List Piece → List ℕ
gap_bytes [] = []
gap_bytes (White b ∷ more) = b ∷ gap_bytes more
gap_bytes (Comment line ∷ more) = ascii.slash ∷ ascii.slash ∷ (line ++ gap_bytes more)
gap_bytes (Skipped line ∷ more) = ascii.dollar ∷ (line ++ gap_bytes more)

-- the rest of a line: up to a newline, or up to the end of the text
pub record IsLineRest (line behind : List ℕ) : Type 0 where
  pub inside : Each is_in_line line
  pub end : Stops is_in_line behind

-- No piece begins here. In a fresh line only white space has come.
abbrev pub EndsGap : Bool → List ℕ → Type 0
EndsGap fresh [] = Unit {0}
EndsGap fresh (b ∷ rest) = (is_white b ≡ false) × (b ≡ ascii.slash → begins ascii.slash rest ≡ false) × (fresh ≡ true → b ≡ ascii.dollar → ⊥)

-- These pieces stand in front of the rest, and no further one.
abbrev pub IsGap : Bool → List Piece → List ℕ → Type 0
IsGap fresh [] rest = EndsGap fresh rest
IsGap fresh (White b ∷ more) rest = (is_white b ≡ true) × IsGap (fresh || b == ascii.newline) more rest
IsGap fresh (Comment line ∷ more) rest = IsLineRest line (gap_bytes more ++ rest) × IsGap fresh more rest
IsGap fresh (Skipped line ∷ more) rest = (fresh ≡ true) × IsLineRest line (gap_bytes more ++ rest) × IsGap fresh more rest
