-- Inputs for worked examples.
use Rattle.std.specs.Prelude.{ℕ, ◌==◌, [], ◌∷◌, ℤ, pos, if◌then◌else◌}
use Rattle.dx_expr.specs.Shape.{Shape}
use Rattle.dx_expr.specs.Value.{Inputs}

-- the shapes: input 0 is a vector of two numbers, each other input a single one
abbrev pub two_shape : ℕ → Shape
two_shape k = if k == 0 then 2 ∷ [] else []

-- the values: the first of the vector is outside the int range, and each other input is 7
abbrev pub two_value : ℕ → ℕ → ℕ → ℤ
two_value k item place = if k == 0 then (if place == 0 then pos 3000000000 else pos 5) else pos 7

abbrev pub two : Inputs
two = record { shape = two_shape; value = two_value }
