-- What a cursor shows.
use Rattle.std.specs.Prelude.{◌+◌, ◌<◌, ◌^◌, length}
use Rattle.dx_expr_grammar.specs.Tokens.{Tokens, tokens_from}
use Rattle.dx_expr_parser.specs.Lexer.{shown}
use Rattle.dx_expr_parser.specs.declared.cursor.Cursor.TheInside.{Inside}

-- the token in hand and those behind it
abbrev pub shown_by : Inside → Tokens
shown_by c = shown c.next (tokens_from 0 c.at c.rest.now)

-- offsets don't run out
abbrev pub HasRoom : Inside → Type 0
HasRoom c = c.at + length c.rest.now < 2 ^ 63
