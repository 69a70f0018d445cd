-- Places in a text: the first one, the one behind some bytes, and the error that stands at one.
use Rattle.std.specs.Prelude.{◌≡◌, ℕ, ◌+◌, ◌<◌, ◌≤◌, ◌^◌, ◌==◌, List, fold, take, if◌then◌else◌}
use Rattle.dx_base.specs.Tokens.Ascii as ascii
use Rattle.dx_base.specs.declared.token.Place.{Place}
use Rattle.dx_base.specs.declared.token.SyntaxKind.{SyntaxKind}
use Rattle.dx_base.specs.declared.token.SyntaxError.{SyntaxError}

-- where a text begins
abbrev pub first : Place
first = record { offset = 0; line = 1; column = 1 }

-- the place behind a byte, which a newline puts into the next line
abbrev pub behind : Place → ℕ → Place
behind p b =
    if b == ascii.newline then record { offset = p.offset + 1; line = p.line + 1; column = 1 }
    else record { offset = p.offset + 1; line = p.line; column = p.column + 1 }

-- the place behind these bytes
abbrev pub behind_all : Place → List ℕ → Place
behind_all p bytes = fold behind p bytes

-- the place behind this many bytes of one line
abbrev pub along : Place → ℕ → Place
along p n = record { offset = p.offset + n; line = p.line; column = p.column + n }

-- the error of this kind at a place
abbrev pub error_at : SyntaxKind → Place → SyntaxError
error_at kind p = record { kind = kind; line = p.line; column = p.column }

-- a place in front of this many bytes, whose numbers fit
pub record IsWithin (p : Place) (n : ℕ) : Type 0 where
  pub offset : p.offset + n < 2 ^ 63
  pub line : p.line ≤ p.offset + 1
  pub column : p.column ≤ p.offset + 1

-- The place is the one behind all the bytes of the text that are before it: its line is one more than the newlines
-- among these, and its column one more than the bytes behind the last of them.
abbrev pub IsPlaceOf : List ℕ → Place → Type 0
IsPlaceOf text p = p ≡ behind_all first (take p.offset text)
