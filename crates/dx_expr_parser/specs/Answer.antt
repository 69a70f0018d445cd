-- What a parse answers.
use Rattle.std.specs.Prelude.{◌≡◌, ℕ, Result, Ok, Err}
use Rattle.dx_expr_grammar.specs.declared.fail.ExprFail.{ExprFail}
use Rattle.dx_expr_grammar.specs.declared.fail.ExprFail.TheVariants.{Refused, Memory}
use Rattle.dx_expr_grammar.specs.declared.tree.Expression.{Expression}

-- the answer is this expression, unless memory ran out
abbrev pub IsOnly : Expression → Result Expression ExprFail → Type 0
IsOnly e (Ok found) = e ≡ found
IsOnly e (Err (Refused at)) = ⊥
IsOnly e (Err Memory) = Unit {0}

-- where it is refused, this holds of the offset
abbrev pub OnRefused : (ℕ → Type 0) → ExprFail → Type 0
OnRefused P (Refused at) = P at
OnRefused P Memory = Unit {0}
