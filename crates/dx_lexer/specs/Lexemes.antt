-- What tokens whose words stand in their text are as tokens.
use Rattle.std.specs.Prelude.{Result, Ok, Err}
use Rattle.dx_base.specs.declared.token.Lexeme.{Lexeme}
use Rattle.dx_base.specs.declared.token.LexKind.{LexKind}
use Rattle.dx_base.specs.declared.token.LexKind.TheVariants as kind
use Rattle.dx_lexer.specs.declared.borrowed.Token.{Token}
use Rattle.dx_lexer.specs.declared.borrowed.TokenKind.{TokenKind}
use Rattle.dx_lexer.specs.declared.borrowed.TokenKind.TheVariants as token

abbrev pub kind_of : TokenKind → LexKind
kind_of token.End = kind.End
kind_of (token.Name n) = kind.Name n.now
kind_of (token.Int n) = kind.Int n
kind_of (token.Text t) = kind.Text t
kind_of (token.Frame w) = kind.Frame w.now
kind_of (token.Sign s) = kind.Sign s.now

abbrev pub lexeme_of : Token → Lexeme
lexeme_of t = record { kind = kind_of t.kind; from = t.from; to = t.to }

-- the token, or what stands in its place
abbrev pub as_lexeme : {E : Type 0} → Result Token E → Result Lexeme E
as_lexeme (Ok t) = Ok (lexeme_of t)
as_lexeme (Err e) = Err e
