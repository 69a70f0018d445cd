-- What the lexer hands on.
use Rattle.std.specs.Prelude.{◌≡◌, ℕ, false, List, [], ◌∷◌, Option, Some, None}
use Rattle.dx_expr_grammar.specs.Tokens.{Tokens, Piece, Word, Unknown, with_token, is_blank}
use Rattle.dx_expr_grammar.specs.declared.token.TokenKind.{TokenKind}
use Rattle.dx_expr_parser.specs.declared.lexer.Next.{Next}
use Rattle.dx_expr_parser.specs.declared.lexer.Next.TheVariants as next

-- what stands next, before the tokens behind it
abbrev pub shown : Next → Tokens → Tokens
shown (next.Token t) s = with_token t s
shown (next.End at whole) s = record { tokens = []; stop = at; whole = whole }

-- the text doesn't begin with white space
abbrev pub NoBlank : List ℕ → Type 0
NoBlank [] = Unit {0}
NoBlank (b ∷ rest) = is_blank b ≡ false

-- a token and how many bytes it has behind its first, if there is one
abbrev pub piece_of : Option (TokenKind × ℕ) → Piece
piece_of None = Unknown
piece_of (Some w) = Word w.0 w.1
