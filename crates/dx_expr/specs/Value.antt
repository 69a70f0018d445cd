-- The values of an item of an expression.
use Rattle.std.specs.Prelude.{ℕ, ◌==◌, ◌*◌, Bool, not, ◌&&◌, ◌||◌, List, [], ◌∷◌, ◌++◌, length, slice_index_or, Result, Ok, Err, if◌then◌else◌, ℤ, pos, negsuc, ◌+ℤ◌, ◌-ℤ◌, ◌*ℤ◌, neg_ℤ, unsigned_abs, int_lt, int_le, int_div, int_rem, nat_lt}
use Rattle.std.specs.List.{range_with_len}
use Rattle.std.specs.Int.{int_min, int_max, int_signum}
use Rattle.std.specs.Ordering.{int_eq}
use Rattle.dx_expr_grammar.specs.declared.tree.Unary.{Unary}
use Rattle.dx_expr_grammar.specs.declared.tree.Unary.TheVariants as unary
use Rattle.dx_expr_grammar.specs.declared.tree.Binary.{Binary}
use Rattle.dx_expr_grammar.specs.declared.tree.Binary.TheVariants as binary
use Rattle.dx_expr_grammar.specs.declared.tree.Expression.{Expression}
use Rattle.dx_expr_grammar.specs.declared.tree.Expression.TheOpen.{Expression-F}
use Rattle.dx_expr_grammar.specs.declared.tree.Expression.TheFolds.{fold-Expression}
use Rattle.dx_expr.specs.declared.fault.ItemFault.{ItemFault}
use Rattle.dx_expr.specs.declared.fault.ItemFault.TheVariants.{Overflow, DivisionByZero}
use Rattle.dx_expr.specs.declared.operators.Sides.{Sides}
use Rattle.dx_expr.specs.declared.operators.Sides.TheVariants as sides
use Rattle.dx_expr.specs.Shape.{Shape}

-- something, or the fault for which there is none
abbrev pub Outcome : Type 0 → Type 0
Outcome A = Result A ItemFault

infixl 10 ◌>>=◌
abbrev pub ◌>>=◌ : {A B : Type 0} → Outcome A → (A → Outcome B) → Outcome B
Ok a >>= f = f a
Err fault >>= f = Err fault

-- what is made of it
abbrev pub after : {A B : Type 0} → (A → Outcome B) → Outcome A → Outcome B
after f o = o >>= f

-- ---- single values

abbrev pub is_int : ℤ → Bool
is_int (pos n) = nat_lt n 2147483648
is_int (negsuc n) = nat_lt n 2147483648

-- a value that lies in the int range
abbrev pub checked : ℤ → Outcome ℤ
checked v = if is_int v then Ok v else Err Overflow

abbrev pub is_zero : ℤ → Bool
is_zero v = int_eq v (pos 0)

abbrev pub truth : Bool → ℤ
truth b = if b then pos 1 else pos 0

abbrev pub unary_value : Unary → ℤ → Outcome ℤ
unary_value unary.Negate v = checked (neg_ℤ v)
unary_value unary.Not v = Ok (truth (is_zero v))
unary_value unary.Absolute v = checked (pos (unsigned_abs v))
unary_value unary.Sign v = Ok (int_signum v)

-- towards zero
abbrev pub quotient : ℤ → ℤ → Outcome ℤ
quotient a b = if is_zero b then Err DivisionByZero else checked (int_div a b)

-- what the quotient leaves
abbrev pub remainder : ℤ → ℤ → Outcome ℤ
remainder a b = if is_zero b then Err DivisionByZero else checked (int_rem a b)

-- An operator that looks at both its sides, at two single values; `values_by` asks for Or, And and Dot elsewhere.
abbrev pub binary_value : Binary → ℤ → ℤ → Outcome ℤ
binary_value binary.Or a b = Ok (truth (not (is_zero a && is_zero b)))
binary_value binary.And a b = Ok (truth (not (is_zero a || is_zero b)))
binary_value binary.Equal a b = Ok (truth (int_eq a b))
binary_value binary.NotEqual a b = Ok (truth (not (int_eq a b)))
binary_value binary.Less a b = Ok (truth (int_lt a b))
binary_value binary.LessEqual a b = Ok (truth (int_le a b))
binary_value binary.Greater a b = Ok (truth (int_lt b a))
binary_value binary.GreaterEqual a b = Ok (truth (int_le b a))
binary_value binary.Add a b = checked (a +ℤ b)
binary_value binary.Subtract a b = checked (a -ℤ b)
binary_value binary.Multiply a b = checked (a *ℤ b)
binary_value binary.Divide a b = quotient a b
binary_value binary.Remainder a b = remainder a b
binary_value binary.Minimum a b = Ok (int_min a b)
binary_value binary.Maximum a b = Ok (int_max a b)
binary_value binary.Dot a b = checked (a *ℤ b)

-- ---- lists of values, the last extent varying fastest

abbrev pub Values : Type 0
Values = List ℤ

-- each of them, in order
abbrev pub each : {A : Type 0} → (A → Outcome ℤ) → List A → Outcome Values
each f [] = Ok []
each f (a ∷ rest) = f a >>= λ v. each f rest >>= λ vs. Ok (v ∷ vs)

-- the value of a single one
abbrev pub the_value : Values → ℤ
the_value [] = pos 0
the_value (v ∷ rest) = v

-- ---- expressions

-- the inputs: the shape of each, and its values by item and place
pub record Inputs : Type 0 where
  pub shape : ℕ → Shape
  pub value : ℕ → ℕ → ℕ → ℤ

-- how many values an item has
abbrev pub size : Shape → ℕ
size [] = 1
size (n ∷ a) = n * size a

-- all values of an item of an input
abbrev pub input_values : Inputs → ℕ → ℕ → Outcome Values
input_values inputs item k = each (λ place. checked (inputs.value k item place)) (range_with_len 0 (size (inputs.shape k)))

-- the value at a place; a single value is at each
abbrev pub value_at : Values → ℕ → ℤ
value_at vs i = slice_index_or vs (if length vs == 1 then 0 else i) (pos 0)

-- how many values stand side by side: those of the left side, or of the right one where the left one is single
abbrev pub places : Values → Values → ℕ
places x y = if length x == 1 then length y else length x

-- value by value, in order; a single value stands beside each of the other side
abbrev pub side_by_side : (ℤ → ℤ → Outcome ℤ) → Values → Values → Outcome Values
side_by_side f x y = each (λ i. f (value_at x i) (value_at y i)) (range_with_len 0 (places x y))

-- a sum with a product added
abbrev pub with_product : ℤ → ℤ → ℤ → Outcome ℤ
with_product a b sum = checked (a *ℤ b) >>= λ product. checked (sum +ℤ product)

-- the products at these places, added from the left to a sum
abbrev pub dot_from : Values → Values → ℤ → List ℕ → Outcome ℤ
dot_from x y sum [] = Ok sum
dot_from x y sum (i ∷ rest) = with_product (value_at x i) (value_at y i) sum >>= λ more. dot_from x y more rest

abbrev pub alone : ℤ → Outcome Values
alone v = Ok (v ∷ [])

abbrev pub dot_product : Values → Values → Outcome Values
dot_product x y = dot_from x y (pos 0) (range_with_len 0 (length x)) >>= alone

-- 1 or 0, as the right side decides
abbrev pub decided : Values → Outcome Values
decided y = alone (truth (not (is_zero (the_value y))))

-- how an operator looks at its sides
abbrev pub sides_of : Binary → Sides
sides_of binary.Or = sides.UnlessTrue
sides_of binary.And = sides.IfTrue
sides_of binary.Dot = sides.Vectors
sides_of _ = sides.Both

-- the values of both sides, of which the right one is looked at where the left one doesn't decide
abbrev pub values_by : Sides → Binary → Outcome Values → Outcome Values → Outcome Values
values_by sides.UnlessTrue o a b = a >>= λ x. if is_zero (the_value x) then b >>= decided else alone (pos 1)
values_by sides.IfTrue o a b = a >>= λ x. if is_zero (the_value x) then alone (pos 0) else b >>= decided
values_by sides.Vectors o a b = a >>= λ x. b >>= λ y. dot_product x y
values_by sides.Both o a b = a >>= λ x. b >>= λ y. side_by_side (binary_value o) x y

abbrev pub binary_values : Binary → Outcome Values → Outcome Values → Outcome Values
binary_values o a b = values_by (sides_of o) o a b

-- the values of the parts, one after the other
abbrev pub joined : List (Outcome Values) → Outcome Values
joined [] = Ok []
joined (a ∷ rest) = a >>= λ x. joined rest >>= λ xs. Ok (x ++ xs)

-- the values of an item of an expression, from those of its parts
abbrev pub value_step : Inputs → ℕ → Expression-F (Outcome Values) → Outcome Values
value_step inputs item (Expression-F.Number n) = checked (pos n) >>= alone
value_step inputs item (Expression-F.Input k) = input_values inputs item k
value_step inputs item (Expression-F.Unary o a) = a >>= each (unary_value o)
value_step inputs item (Expression-F.Binary o a b) = binary_values o a b
value_step inputs item (Expression-F.Choice c a b) = c >>= λ x. if is_zero (the_value x) then b else a
value_step inputs item (Expression-F.Part a k) = a >>= λ x. alone (slice_index_or x k (pos 0))
value_step inputs item (Expression-F.Vector parts) = joined parts

-- The values of an item of an expression whose shapes fit, in order, or its first fault.
unfoldable pub value_of : Inputs → ℕ → Expression → Outcome Values
value_of inputs item = fold-Expression (Outcome Values) (value_step inputs item)
