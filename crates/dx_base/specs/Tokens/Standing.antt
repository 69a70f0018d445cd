-- What stands at a place of a text: behind a gap a token, or an error; and that nothing else does.
use Rattle.std.specs.Prelude.{◌≡◌, ℕ, ◌==◌, List, ◌++◌, drop}
use Rattle.dx_base.specs.declared.token.Place.{Place}
use Rattle.dx_base.specs.declared.token.Lexeme.{Lexeme}
use Rattle.dx_base.specs.declared.token.SyntaxError.{SyntaxError}
use Rattle.dx_base.specs.Tokens.Places.{behind_all, error_at, IsPlaceOf}
use Rattle.dx_base.specs.Tokens.Gaps.{Piece, gap_bytes, IsGap}
use Rattle.dx_base.specs.Tokens.Spelling.{IsToken}
use Rattle.dx_base.specs.Tokens.Refusals.{IsRefusal}

-- Only where the text begins is a line fresh; a place behind a token has that token in its line.
pub record IsLexeme (text : List ℕ) (at : Place) (found : Lexeme) : Type 0 where
  pub gap : List Piece
  pub bytes : List ℕ
  pub rest : List ℕ
  pub parts : drop at.offset text ≡ gap_bytes gap ++ (bytes ++ rest)
  pub between : IsGap (at.offset == 0) gap (bytes ++ rest)
  pub token : IsToken found.kind bytes rest
  pub from : found.from ≡ behind_all at (gap_bytes gap)
  pub to : found.to ≡ behind_all found.from bytes

pub record IsError (text : List ℕ) (at : Place) (error : SyntaxError) : Type 0 where
  pub gap : List Piece
  pub rest : List ℕ
  pub before : List ℕ
  pub parts : drop at.offset text ≡ gap_bytes gap ++ rest
  pub between : IsGap (at.offset == 0) gap rest
  pub refusal : IsRefusal rest before error.kind
  pub place : error ≡ error_at error.kind (behind_all (behind_all at (gap_bytes gap)) before)

-- this token and no other, and no error
pub record IsOnlyLexeme (text : List ℕ) (at : Place) (found : Lexeme) : Type 0 where
  pub stands : IsLexeme text at found
  pub only : (other : Lexeme) → IsLexeme text at other → other ≡ found
  pub no_error : (error : SyntaxError) → IsError text at error → ⊥

-- this error and no other, and no token
pub record IsOnlyError (text : List ℕ) (at : Place) (error : SyntaxError) : Type 0 where
  pub stands : IsError text at error
  pub only : (other : SyntaxError) → IsError text at other → other ≡ error
  pub no_lexeme : (found : Lexeme) → IsLexeme text at found → ⊥

-- both places of a token are places of the text
pub record HasPlaces (text : List ℕ) (found : Lexeme) : Type 0 where
  pub from : IsPlaceOf text found.from
  pub to : IsPlaceOf text found.to

-- the line and the column of an error are those of a place of the text
pub record HasPlace (text : List ℕ) (error : SyntaxError) : Type 0 where
  pub place : Place
  pub in_text : IsPlaceOf text place
  pub same : error ≡ error_at error.kind place
