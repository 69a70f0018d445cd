-- What stands between the tokens of a native file: white space and comments.
use Rattle.std.specs.Prelude.{◌≡◌, ℕ, ◌+◌, List, [], ◌∷◌, ◌++◌, length}
use Rattle.dx_base.specs.Tokens.Ascii as ascii
use Rattle.dx_base.specs.Tokens.Gaps.{IsLineRest}
use Rattle.dx_places.specs.Grammar.{At}

-- a byte of white space
pub data IsWhite : ℕ → Type 0 where
  space : IsWhite ascii.space
  tab : IsWhite ascii.tab
  carriage_return : IsWhite ascii.carriage_return
  newline : IsWhite ascii.newline
  comma : IsWhite 44

-- '#'
abbrev pub hash : ℕ
hash = 35

-- A byte of white space, or a comment: the bytes behind its '#'.
pub data Piece : Type 0 where
  White : ℕ → Piece
  Comment : List ℕ → Piece

abbrev pub piece_bytes : List Piece → List ℕ
piece_bytes [] = []
piece_bytes (White b ∷ more) = b ∷ piece_bytes more
piece_bytes (Comment line ∷ more) = hash ∷ (line ++ piece_bytes more)

-- These are pieces in front of the rest: each white byte is one, and each comment goes up to a newline, which it leaves,
-- or up to the end of the text.
abbrev pub ArePieces : List Piece → List ℕ → Type 0
ArePieces [] rest = Unit {0}
ArePieces (White b ∷ more) rest = IsWhite b × ArePieces more rest
ArePieces (Comment line ∷ more) rest = IsLineRest line (piece_bytes more ++ rest) × ArePieces more rest

-- neither white space nor a comment begins here
abbrev pub EndsGap : List ℕ → Type 0
EndsGap [] = Unit {0}
EndsGap (b ∷ rest) = (IsWhite b → ⊥) × (b ≡ hash → ⊥)

-- from the one place to the other there are pieces, and no further one begins there
pub record IsBehindGap (s e : At) : Type 0 where
  pub gap : List Piece
  pub parts : s.rest ≡ piece_bytes gap ++ e.rest
  pub pieces : ArePieces gap e.rest
  pub end : EndsGap e.rest
  pub offset : e.offset ≡ s.offset + length (piece_bytes gap)
