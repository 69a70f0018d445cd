-- Expressions that are a single value, with the components of a vector where a vector stands in them.
use Rattle.std.specs.Prelude.{◌≡◌, ℕ, zero, suc, ◌==◌, if◌then◌else◌, Ok}
use Rattle.dx_expr_grammar.specs.declared.tree.Binary.TheVariants as binary
use Rattle.dx_expr_grammar.specs.declared.tree.Expression.{Expression}
use Rattle.dx_expr_grammar.specs.declared.tree.Expression.TheVariants as e
use Rattle.dx_expr.specs.Shape.{Shape}
use Rattle.dx_expr.specs.Value.{Inputs, Values, value_of}
use Rattle.dx_expr_columns.specs.Columns.{column}

-- where the first of two expressions has values, the second has the same
abbrev pub HasValuesOf : Inputs → Expression → Expression → Type 0
HasValuesOf inputs x y = (item : ℕ) (vs : Values) → value_of inputs item x ≡ Ok vs → value_of inputs item y ≡ Ok vs

-- the products of the first components of two vectors, so many, added from the left
abbrev pub sum_of_products : (ℕ → Shape) → ℕ → Expression → Expression → Expression
sum_of_products inputs zero a b = e.Number 0
sum_of_products inputs (suc n) a b = e.Binary binary.Add (sum_of_products inputs n a b) (e.Binary binary.Multiply (column inputs n a) (column inputs n b))

-- a component of a vector, which looks at the first ones, so many, too
abbrev pub component_beside : (ℕ → Shape) → ℕ → Expression → ℕ → Expression
component_beside inputs zero a place = column inputs place a
component_beside inputs (suc n) a place =
    if n == place then component_beside inputs n a place else e.Binary binary.Add (component_beside inputs n a place) (e.Binary binary.Multiply (column inputs n a) (e.Number 0))
