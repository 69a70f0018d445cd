-- Which inputs an expression speaks of.
use Rattle.std.specs.Prelude.{ℕ, ◌==◌, Bool, false, ◌||◌, List, [], ◌∷◌}
use Rattle.dx_expr_grammar.specs.declared.tree.Expression.{Expression}
use Rattle.dx_expr_grammar.specs.declared.tree.Expression.TheOpen.{Expression-F}
use Rattle.dx_expr_grammar.specs.declared.tree.Expression.TheFolds.{fold-Expression}

abbrev pub any_of : List Bool → Bool
any_of [] = false
any_of (a ∷ rest) = a || any_of rest

-- whether input k occurs, from whether it occurs in the parts
abbrev pub uses_step : ℕ → Expression-F Bool → Bool
uses_step k (Expression-F.Number n) = false
uses_step k (Expression-F.Input j) = j == k
uses_step k (Expression-F.Unary o a) = a
uses_step k (Expression-F.Binary o a b) = a || b
uses_step k (Expression-F.Choice c a b) = c || (a || b)
uses_step k (Expression-F.Part a j) = a
uses_step k (Expression-F.Vector parts) = any_of parts

-- whether input k occurs in an expression
unfoldable pub uses : ℕ → Expression → Bool
uses k = fold-Expression Bool (uses_step k)
