-- The shape of an expression over the shapes of its inputs.
use Rattle.std.specs.Cmp.Lexicographic.{pointwise}
use Rattle.std.specs.Prelude.{ℕ, nat_eq, nat_lt, Bool, true, false, ◌&&◌, ◌||◌, List, [], ◌∷◌, length, Option, Some, None, if◌then◌else◌}
use Rattle.dx_expr_grammar.specs.declared.tree.Unary.{Unary}
use Rattle.dx_expr_grammar.specs.declared.tree.Unary.TheVariants as unary
use Rattle.dx_expr_grammar.specs.declared.tree.Binary.{Binary}
use Rattle.dx_expr_grammar.specs.declared.tree.Binary.TheVariants as binary
use Rattle.dx_expr_grammar.specs.declared.tree.Expression.{Expression}
use Rattle.dx_expr_grammar.specs.declared.tree.Expression.TheOpen.{Expression-F}
use Rattle.dx_expr_grammar.specs.declared.tree.Expression.TheFolds.{fold-Expression}

-- the extents, as many as the rank; a single value has none
abbrev pub Shape : Type 0
Shape = List ℕ

abbrev pub same_shape : Shape → Shape → Bool
same_shape a b = pointwise nat_eq a b

abbrev pub is_single : Shape → Bool
is_single [] = true
is_single (n ∷ a) = false

abbrev pub is_vector : Shape → Bool
is_vector [] = false
is_vector (n ∷ []) = true
is_vector (n ∷ m ∷ a) = false

-- it is that of a vector with a part k
abbrev pub has_part : ℕ → Shape → Bool
has_part k [] = false
has_part k (n ∷ []) = nat_lt k n
has_part k (n ∷ m ∷ a) = false

-- value by value: equal shapes, or a single value beside any shape
abbrev pub beside : Shape → Shape → Option Shape
beside a b = if is_single a then Some b else (if is_single b || same_shape a b then Some a else None)

abbrev pub single_if : Bool → Option Shape
single_if fits = if fits then Some [] else None

abbrev pub unary_shape : Unary → Shape → Option Shape
unary_shape unary.Negate a = Some a
unary_shape unary.Not a = single_if (is_single a)
unary_shape unary.Absolute a = Some a
unary_shape unary.Sign a = Some a

abbrev pub binary_shape : Binary → Shape → Shape → Option Shape
binary_shape binary.Add a b = beside a b
binary_shape binary.Subtract a b = beside a b
binary_shape binary.Multiply a b = beside a b
binary_shape binary.Divide a b = beside a b
binary_shape binary.Remainder a b = beside a b
binary_shape binary.Minimum a b = beside a b
binary_shape binary.Maximum a b = beside a b
binary_shape binary.Dot a b = single_if (is_vector a && same_shape a b)
binary_shape binary.Or a b = single_if (is_single a && is_single b)
binary_shape binary.And a b = single_if (is_single a && is_single b)
binary_shape binary.Equal a b = single_if (is_single a && is_single b)
binary_shape binary.NotEqual a b = single_if (is_single a && is_single b)
binary_shape binary.Less a b = single_if (is_single a && is_single b)
binary_shape binary.LessEqual a b = single_if (is_single a && is_single b)
binary_shape binary.Greater a b = single_if (is_single a && is_single b)
binary_shape binary.GreaterEqual a b = single_if (is_single a && is_single b)

-- branches of one shape, behind a condition that is a single value
abbrev pub choice_shape : Shape → Shape → Shape → Option Shape
choice_shape c a b = if is_single c && same_shape a b then Some a else None

-- what shapes are found; none is a misfit
abbrev pub with_one : (Shape → Option Shape) → Option Shape → Option Shape
with_one f None = None
with_one f (Some a) = f a

abbrev pub with_two : (Shape → Shape → Option Shape) → Option Shape → Option Shape → Option Shape
with_two f a b = with_one (λ x. with_one (f x) b) a

abbrev pub is_single_one : Option Shape → Bool
is_single_one None = false
is_single_one (Some a) = is_single a

abbrev pub all_single : List (Option Shape) → Bool
all_single [] = true
all_single (a ∷ rest) = is_single_one a && all_single rest

-- the shape of an expression, from the shapes of the inputs and those of its parts
abbrev pub shape_step : (ℕ → Shape) → Expression-F (Option Shape) → Option Shape
shape_step inputs (Expression-F.Number n) = Some []
shape_step inputs (Expression-F.Input k) = Some (inputs k)
shape_step inputs (Expression-F.Unary o a) = with_one (unary_shape o) a
shape_step inputs (Expression-F.Binary o a b) = with_two (binary_shape o) a b
shape_step inputs (Expression-F.Choice c a b) = with_one (λ x. with_two (choice_shape x) a b) c
shape_step inputs (Expression-F.Part a k) = with_one (λ x. single_if (has_part k x)) a
shape_step inputs (Expression-F.Vector parts) = if all_single parts then Some (length parts ∷ []) else None

-- the shape of an expression, unless the shapes of its parts don't fit
unfoldable pub shape_of : (ℕ → Shape) → Expression → Option Shape
shape_of inputs = fold-Expression (Option Shape) (shape_step inputs)
