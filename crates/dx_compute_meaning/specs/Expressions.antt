-- The expression of a Compute, which is its first input.
use Rattle.std.specs.Prelude.{ℕ, List, Option, Some, None, Result, Ok, Err}
use Rattle.dx_base.specs.declared.code.Code.TheVariants.{BadArgument, BadExpression}
use Rattle.dx_base.specs.Object.{Tree}
use Rattle.dx_objects.specs.Kinds.{text_of}
use Rattle.dx_expr_grammar.specs.declared.tree.Expression.{Expression}
use Rattle.dx_expr_grammar.specs.Tokens.{tokens_of}
use Rattle.dx_expr_grammar.specs.Reading.{Outcome, expression}
use Rattle.dx_compute_meaning.specs.Answered.{Answered, ◌>>=◌, or_refused}

-- what is read, or the offset where it is refused
abbrev pub read : Outcome Expression → Result Expression ℕ
read (Ok found) = Ok found.0
read (Err refused) = Err refused.0

-- The expression that a text is, or the offset of its first error: `expression_law` says so in the words of the grammar.
unfoldable pub parsed : List ℕ → Result Expression ℕ
parsed text = read (expression (tokens_of text))

abbrev pub text_in : Option Tree → Option (List ℕ)
text_in None = None
text_in (Some t) = text_of t

abbrev pub or_bad : Result Expression ℕ → Answered Expression
or_bad (Ok e) = Ok e
or_bad (Err at) = Err (BadExpression at)

-- it needs to be a text, and the text an expression
abbrev pub expression_in : Option Tree → Answered Expression
expression_in v = or_refused BadArgument (text_in v) >>= λ text. or_bad (parsed text)
