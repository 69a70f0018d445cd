-- What a cursor does.
use Rattle.std.specs.Prelude.{drop}
use Rattle.dx_expr_grammar.specs.Tokens.{Tokens}

-- the tokens behind the first
abbrev pub behind : Tokens → Tokens
behind s = record s { tokens = drop 1 s.tokens }
