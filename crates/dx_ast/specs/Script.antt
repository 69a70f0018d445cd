-- What a text is: the tokens that stand in it, and the statements that it stands for or its first error.
use Rattle.std.specs.Prelude.{◌≡◌, ℕ, zero, suc, ◌-◌, true, false, List, [], ◌∷◌, length, Result, Ok, Err}
use Rattle.dx_base.specs.declared.token.Place.{Place}
use Rattle.dx_base.specs.declared.token.LexKind.{LexKind}
use Rattle.dx_base.specs.declared.token.LexKind.TheVariants as token
use Rattle.dx_base.specs.declared.token.Lexeme.{Lexeme}
use Rattle.dx_base.specs.declared.token.SyntaxError.{SyntaxError}
use Rattle.dx_base.specs.declared.token.SyntaxKind.TheVariants as kind
use Rattle.dx_base.specs.Tokens.Places.{first}
use Rattle.dx_base.specs.Tokens.Standing.{IsLexeme, IsError}
use Rattle.dx_base.specs.Tokens.Reading.{lexeme_at}
use Rattle.dx_grammar.specs.Stream.{Stream}
use Rattle.dx_grammar.specs.FirstError.{IsText, FirstError}
use Rattle.dx_ast.specs.declared.statements.Stmt.{Stmt}
use Rattle.dx_ast.specs.Classes.{fault, misfit}
use Rattle.dx_ast.specs.Grammar.{script}

abbrev pub Tokens : Type 0
Tokens = Stream Lexeme SyntaxError

-- The tokens from a place on are those that stand one after the other, up to the end of the text, or up to the first
-- error that stands there.
pub data AreTokens (text : List ℕ) : Place → Tokens → Type 0 where
  ends : (at : Place) (t : Lexeme) → IsLexeme text at t → t.kind ≡ token.End → AreTokens text at (record { tokens = []; stop = misfit t; whole = true })
  goes_on : (at : Place) (t : Lexeme) (behind : Tokens) → IsLexeme text at t → (t.kind ≡ token.End → ⊥) → AreTokens text t.to behind → AreTokens text at (record behind { tokens = t ∷ behind.tokens })
  breaks_off : (at : Place) (f : SyntaxError) → IsError text at f → AreTokens text at (record { tokens = []; stop = f; whole = false })

-- the text stands for these statements
pub record IsScript (text : List ℕ) (statements : List Stmt) : Type 0 where
  pub tokens : Tokens
  pub stand : AreTokens text first tokens
  pub says : IsText script tokens statements

-- the text stands for none, and this is its first error
pub record IsFirstError (text : List ℕ) (f : SyntaxError) : Type 0 where
  pub tokens : Tokens
  pub stand : AreTokens text first tokens
  pub fails : FirstError misfit script tokens f

-- ---- the same tokens by computation, as the code reads them

-- this token and those behind it; at the end of the text they run out
abbrev pub with_token : Lexeme → LexKind → Tokens → Tokens
with_token t token.End behind = record { tokens = []; stop = misfit t; whole = true }
with_token t _ behind = record behind { tokens = t ∷ behind.tokens }

-- what is read at a place, and what is read behind it; at bytes that are no token the tokens run out
abbrev pub with_lexeme : Result Lexeme SyntaxError → (Place → Tokens) → Tokens
with_lexeme (Ok t) behind = with_token t t.kind (behind t.to)
with_lexeme (Err f) behind = record { tokens = []; stop = f; whole = false }

-- at most so many
unfoldable pub tokens_by : ℕ → List ℕ → Place → Tokens
tokens_by zero text at = record { tokens = []; stop = fault kind.Syntax at; whole = false }
tokens_by (suc n) text at = with_lexeme (lexeme_at text at) (tokens_by n text)

-- the tokens from a place on: each takes a byte, so there aren't more than bytes and the end
unfoldable pub tokens_from : List ℕ → Place → Tokens
tokens_from text at = tokens_by (suc (length text - at.offset)) text at

abbrev pub tokens_of : List ℕ → Tokens
tokens_of text = tokens_from text first
