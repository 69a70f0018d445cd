-- What an expression of the grammar keeps to: inputs are numbered from 0 to 20, and a vector has 1 to 256 parts.
use Rattle.std.specs.Prelude.{ℕ, Bool, true, ◌&&◌, nat_le, List, [], ◌∷◌, length}
use Rattle.dx_expr_grammar.specs.declared.tree.Expression.{Expression}
use Rattle.dx_expr_grammar.specs.declared.tree.Expression.TheOpen.{Expression-F}
use Rattle.dx_expr_grammar.specs.declared.tree.Expression.TheFolds.{fold-Expression}

abbrev pub all_of : List Bool → Bool
all_of [] = true
all_of (a ∷ rest) = a && all_of rest

-- so many parts are those of a vector
abbrev pub is_width : ℕ → Bool
is_width n = nat_le 1 n && nat_le n 256

abbrev pub bounded_step : Expression-F Bool → Bool
bounded_step (Expression-F.Number n) = true
bounded_step (Expression-F.Input k) = nat_le k 20
bounded_step (Expression-F.Unary o a) = a
bounded_step (Expression-F.Binary o a b) = a && b
bounded_step (Expression-F.Choice c a b) = c && (a && b)
bounded_step (Expression-F.Part a k) = a
bounded_step (Expression-F.Vector parts) = is_width (length parts) && all_of parts

unfoldable pub is_bounded : Expression → Bool
is_bounded = fold-Expression Bool bounded_step
