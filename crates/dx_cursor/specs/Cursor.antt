-- What a cursor shows: the tokens from the one in hand on.
use Rattle.std.specs.Prelude.{◌≡◌, List, ℕ, Result, Ok, Err}
use Rattle.dx_base.specs.declared.token.Place.{Place}
use Rattle.dx_base.specs.declared.token.SyntaxError.{SyntaxError}
use Rattle.dx_base.specs.Tokens.Reading.{IsReached}
use Rattle.dx_lexer.specs.declared.borrowed.Token.{Token}
use Rattle.dx_lexer.specs.Lexemes.{lexeme_of, as_lexeme}
use Rattle.dx_ast.specs.Classes.{misfit}
use Rattle.dx_ast.specs.Script.{Tokens, with_lexeme, tokens_from}
use Rattle.dx_cursor.specs.declared.fail.ParseFail.{ParseFail}
use Rattle.dx_cursor.specs.declared.fail.ParseFail.TheVariants as fail
use Rattle.dx_cursor.specs.declared.cursor.Cursor.TheInside.{Inside}

abbrev pub tokens_in : Inside → Tokens
tokens_in c = with_lexeme (as_lexeme c.current) (tokens_from c.text.now)

-- a reading from the start comes to the end of the token in hand
abbrev pub IsReadTo : List ℕ → Result Token SyntaxError → Type 0
IsReadTo text (Ok t) = IsReached text t.to
IsReadTo text (Err f) = Unit {0}

abbrev pub IsReading : Inside → Type 0
IsReading c = IsReadTo c.text.now c.current

-- what is read at a place: the tokens go on with it, and its end is reached
pub record IsReadAt (text : List ℕ) (at : Place) (current : Result Token SyntaxError) : Type 0 where
  pub tokens : with_lexeme (as_lexeme current) (tokens_from text) ≡ tokens_from text at
  pub reached : IsReadTo text current

-- and where nothing is, memory ran out
abbrev pub Given : List ℕ → Place → Result (Result Token SyntaxError) ParseFail → Type 0
Given text at (Ok current) = IsReadAt text at current
Given text at (Err f) = f ≡ fail.Memory

-- the same, where the token is put into a variable
abbrev pub GivenIn : {A : Type 0} → List ℕ → Place → Result Token SyntaxError → Result A ParseFail → Type 0
GivenIn text at current (Ok a) = IsReadAt text at current
GivenIn text at current (Err f) = f ≡ fail.Memory

-- what is wrong with a token that doesn't fit
abbrev pub refusal_of : Result Token SyntaxError → SyntaxError
refusal_of (Ok t) = misfit (lexeme_of t)
refusal_of (Err f) = f
