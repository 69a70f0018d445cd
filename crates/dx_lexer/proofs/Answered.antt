-- What was answered stands at the place, lies in the text, and ends at a place that is reached.
use Rattle.std.proofs.Common.{ℕ, List, Result, Ok, Err, IfOk}
use Rattle.dx_base.specs.declared.token.Place.{Place}
use Rattle.dx_base.specs.declared.token.Lexeme.{Lexeme}
use Rattle.dx_base.specs.Tokens.Reading.{IsReached, behind_token, lexeme_at}
use Rattle.dx_base.proofs.Tokens.PlaceLaw.{lexeme_places, error_place, reached_place}
use Rattle.dx_base.proofs.Tokens.StandingLaw.{only_lexeme, only_error}
use Rattle.dx_lexer.specs.declared.fail.LexFail.{LexFail}
use Rattle.dx_lexer.specs.declared.fail.LexFail.TheVariants as fail
use Rattle.dx_lexer.specs.declared.borrowed.Token.{Token}
use Rattle.dx_lexer.specs.Lexemes.{as_lexeme, lexeme_of}
use Rattle.dx_lexer.specs.Answers.{Answers, Stands, LiesIn}

pub stands : (text : List ℕ) (at : Place) (result : Result Lexeme LexFail) → Answers (lexeme_at text at) result → Stands text at result
stands text at (Ok found) e = only_lexeme text at found e
stands text at (Err (fail.Refused error)) e = only_error text at error e
stands text at (Err fail.Memory) e = tt

pub reached : (text : List ℕ) (at : Place) (result : Result Lexeme LexFail) → IsReached text at → Answers (lexeme_at text at) result → IfOk result (λ found. IsReached text found.to)
reached text at (Ok found) before e = behind_token at found before e
reached text at (Err f) before e = tt

pub token_reached : (text : List ℕ) (at : Place) (result : Result Token LexFail) → IsReached text at → Answers (lexeme_at text at) (as_lexeme result) → IfOk result (λ found. IsReached text found.to)
token_reached text at (Ok found) before e = behind_token at (lexeme_of found) before e
token_reached text at (Err f) before e = tt

pub lies_in : (text : List ℕ) (at : Place) (result : Result Lexeme LexFail) → IsReached text at → Stands text at result → LiesIn text result
lies_in text at (Ok found) before is = lexeme_places text at found (reached_place text at before) is.stands
lies_in text at (Err (fail.Refused error)) before is = error_place text at error (reached_place text at before) is.stands
lies_in text at (Err fail.Memory) before is = tt
