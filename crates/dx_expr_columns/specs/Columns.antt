-- The components of an expression, each as an expression that is a single value.
use Rattle.std.specs.Prelude.{ℕ, List, map, slice_index_or, if◌then◌else◌}
use Rattle.dx_expr_grammar.specs.declared.tree.Expression.{Expression}
use Rattle.dx_expr_grammar.specs.declared.tree.Expression.TheVariants as e
use Rattle.dx_expr_grammar.specs.declared.tree.Expression.TheOpen.{Expression-F}
use Rattle.dx_expr_grammar.specs.declared.tree.Expression.TheFolds.{fold-Expression}
use Rattle.dx_expr.specs.declared.operators.Sides.{Sides}
use Rattle.dx_expr.specs.declared.operators.Sides.TheVariants as sides
use Rattle.dx_expr.specs.Shape.{Shape, is_single}
use Rattle.dx_expr.specs.Value.{sides_of}

-- a part of an input; an input that is a single value is its own component
abbrev pub column_of_input : (ℕ → Shape) → ℕ → ℕ → Expression
column_of_input inputs place k = if is_single (inputs k) then e.Input k else e.Part (e.Input k) place

-- one of a vector's parts
abbrev pub part_at : List Expression → ℕ → Expression
part_at parts place = slice_index_or parts place (e.Number 0)

-- an operator goes through to the components where it is by value; else it gives a single value
abbrev pub where_by_value : Sides → Expression → Expression → Expression
where_by_value sides.Both by_value whole = by_value
where_by_value sides.UnlessTrue by_value whole = whole
where_by_value sides.IfTrue by_value whole = whole
where_by_value sides.Vectors by_value whole = whole

-- an expression and its component number `place`, from those of its parts
abbrev pub column_step : (ℕ → Shape) → ℕ → Expression-F (Expression × Expression) → Expression × Expression
column_step inputs place (Expression-F.Number n) = (e.Number n, e.Number n)
column_step inputs place (Expression-F.Input k) = (e.Input k, column_of_input inputs place k)
column_step inputs place (Expression-F.Unary o a) = (e.Unary o a.0, e.Unary o a.1)
column_step inputs place (Expression-F.Binary o a b) = (e.Binary o a.0 b.0, where_by_value (sides_of o) (e.Binary o a.1 b.1) (e.Binary o a.0 b.0))
column_step inputs place (Expression-F.Choice c a b) = (e.Choice c.0 a.0 b.0, e.Choice c.0 a.1 b.1)
column_step inputs place (Expression-F.Part a k) = (e.Part a.0 k, e.Part a.0 k)
column_step inputs place (Expression-F.Vector parts) = (e.Vector (map (λ p. p.0) parts), part_at (map (λ p. p.0) parts) place)

unfoldable pub with_column : (ℕ → Shape) → ℕ → Expression → Expression × Expression
with_column inputs place = fold-Expression (Expression × Expression) (column_step inputs place)

-- component number `place` of an expression; a single value is its own component
unfoldable pub column : (ℕ → Shape) → ℕ → Expression → Expression
column inputs place x = (with_column inputs place x).1
