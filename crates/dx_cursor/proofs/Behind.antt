-- What the lexer answers at a place, as the tokens from there on.
use Rattle.std.proofs.Common.{◌≡◌, ℕ, List, Result, Ok, Err, sym, ap, ◌∙◌}
use Rattle.dx_base.specs.declared.token.Place.{Place}
use Rattle.dx_base.specs.declared.token.Lexeme.{Lexeme}
use Rattle.dx_base.specs.declared.token.SyntaxError.{SyntaxError}
use Rattle.dx_base.specs.Tokens.Reading.{lexeme_at, IsReached, behind_token}
use Rattle.dx_ast.specs.Script.{with_lexeme, tokens_from}
use Rattle.dx_script_laws.proofs.Texts.{tokens_next}
use Rattle.dx_lexer.specs.declared.borrowed.Token.{Token}
use Rattle.dx_lexer.specs.Lexemes.{lexeme_of}
use Rattle.dx_cursor.specs.Cursor.{IsReadAt}

pub token_read : (text : List ℕ) (at : Place) (found : Token) → IsReached text at → lexeme_at text at ≡ Ok (lexeme_of found) → IsReadAt text at (Ok found)
token_read text at found reached e = record {
  tokens = sym (tokens_next text at reached ∙ ap (λ (r : Result Lexeme SyntaxError). with_lexeme r (tokens_from text)) e);
  reached = behind_token at (lexeme_of found) reached e;
}

pub error_read : (text : List ℕ) (at : Place) (f : SyntaxError) → IsReached text at → lexeme_at text at ≡ Err f → IsReadAt text at (Err f)
error_read text at f reached e = record {
  tokens = sym (tokens_next text at reached ∙ ap (λ (r : Result Lexeme SyntaxError). with_lexeme r (tokens_from text)) e);
  reached = tt;
}
