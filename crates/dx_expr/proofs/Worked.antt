-- Worked examples: the values of a text's only item, and where shapes don't fit.
use Rattle.std.proofs.Common.{◌≡◌, ℕ, pos, negsuc, List, [], ◌∷◌, Ok, Err, Option, Some, None}
use Rattle.std.specs.Prelude.{codes}
use Rattle.dx_grammar.specs.Stream.{turns, while}
use Rattle.dx_expr_grammar.specs.Tokens.{tokens_of, tokens_from}
use Rattle.dx_expr_grammar.specs.Reading.{expression, reading, nested, sign, digits, class, sees, sees_digits, sees_class, right_side, chain, once, opening, number, input, part, parts, group, next_part, vector, function_of_one, function_of_two, primary, postfix, signed, branches, whole}
use Rattle.dx_expr.specs.declared.fault.ItemFault.TheVariants.{Overflow, DivisionByZero}
use Rattle.dx_expr.specs.Shape.{Shape, shape_of}
use Rattle.dx_expr.specs.Value.{Outcome, Values, value_of}
use Rattle.dx_expr.specs.Examples.{two, two_shape}
use Rattle.dx_expr.proofs.Equations.{values_by_parts, shapes_by_parts}

-- the values of a text
values : List ℕ → Option (Outcome Values)
values text = elim (expression (tokens_of text)) [ Ok p ↦ Some (value_of two 0 p.0) | Err f ↦ None ]

-- the shape of a text
shape_in : List ℕ → Option (Option Shape)
shape_in text = elim (expression (tokens_of text)) [ Ok p ↦ Some (shape_of two_shape p.0) | Err f ↦ None ]

cuts_towards_zero : values (codes "-7 / 2") ≡ Some (Ok (negsuc 2 ∷ []))
unfolding values turns while tokens_from reading nested sign digits class sees sees_digits sees_class right_side chain once opening number input part parts group next_part vector function_of_one function_of_two primary postfix signed branches whole
cuts_towards_zero = simp values_by_parts

leaves : values (codes "-7 % 2") ≡ Some (Ok (negsuc 0 ∷ []))
unfolding values turns while tokens_from reading nested sign digits class sees sees_digits sees_class right_side chain once opening number input part parts group next_part vector function_of_one function_of_two primary postfix signed branches whole
leaves = simp values_by_parts

right_side_first : values (codes "[2147483647, 1] + [1, 1/0]") ≡ Some (Err DivisionByZero)
unfolding values turns while tokens_from reading nested sign digits class sees sees_digits sees_class right_side chain once opening number input part parts group next_part vector function_of_one function_of_two primary postfix signed branches whole
right_side_first = simp values_by_parts

part_of_all : values (codes "[1/0, 1].1") ≡ Some (Err DivisionByZero)
unfolding values turns while tokens_from reading nested sign digits class sees sees_digits sees_class right_side chain once opening number input part parts group next_part vector function_of_one function_of_two primary postfix signed branches whole
part_of_all = simp values_by_parts

input_of_all : values (codes "$0.1") ≡ Some (Err Overflow)
unfolding values turns while tokens_from reading nested sign digits class sees sees_digits sees_class right_side chain once opening number input part parts group next_part vector function_of_one function_of_two primary postfix signed branches whole
input_of_all = simp values_by_parts

least_remainder : values (codes "(-2147483647 - 1) % -1") ≡ Some (Ok (pos 0 ∷ []))
unfolding values turns while tokens_from reading nested sign digits class sees sees_digits sees_class right_side chain once opening number input part parts group next_part vector function_of_one function_of_two primary postfix signed branches whole
least_remainder = simp values_by_parts

least_quotient : values (codes "(-2147483647 - 1) / -1") ≡ Some (Err Overflow)
unfolding values turns while tokens_from reading nested sign digits class sees sees_digits sees_class right_side chain once opening number input part parts group next_part vector function_of_one function_of_two primary postfix signed branches whole
least_quotient = simp values_by_parts

decided : values (codes "0 && 1/0") ≡ Some (Ok (pos 0 ∷ []))
unfolding values turns while tokens_from reading nested sign digits class sees sees_digits sees_class right_side chain once opening number input part parts group next_part vector function_of_one function_of_two primary postfix signed branches whole
decided = simp values_by_parts

undecided : values (codes "1 && 1/0") ≡ Some (Err DivisionByZero)
unfolding values turns while tokens_from reading nested sign digits class sees sees_digits sees_class right_side chain once opening number input part parts group next_part vector function_of_one function_of_two primary postfix signed branches whole
undecided = simp values_by_parts

chosen : values (codes "1 ? 2 : 1/0") ≡ Some (Ok (pos 2 ∷ []))
unfolding values turns while tokens_from reading nested sign digits class sees sees_digits sees_class right_side chain once opening number input part parts group next_part vector function_of_one function_of_two primary postfix signed branches whole
chosen = simp values_by_parts

from_the_left : values (codes "10 - 4 - 3") ≡ Some (Ok (pos 3 ∷ []))
unfolding values turns while tokens_from reading nested sign digits class sees sees_digits sees_class right_side chain once opening number input part parts group next_part vector function_of_one function_of_two primary postfix signed branches whole
from_the_left = simp values_by_parts

products_first : values (codes "2 + 3 * 4") ≡ Some (Ok (pos 14 ∷ []))
unfolding values turns while tokens_from reading nested sign digits class sees sees_digits sees_class right_side chain once opening number input part parts group next_part vector function_of_one function_of_two primary postfix signed branches whole
products_first = simp values_by_parts

beside_each : values (codes "[1, 2] * $1") ≡ Some (Ok (pos 7 ∷ pos 14 ∷ []))
unfolding values turns while tokens_from reading nested sign digits class sees sees_digits sees_class right_side chain once opening number input part parts group next_part vector function_of_one function_of_two primary postfix signed branches whole
beside_each = simp values_by_parts

dot_product : values (codes "dot([1, 2], [3, 4])") ≡ Some (Ok (pos 11 ∷ []))
unfolding values turns while tokens_from reading nested sign digits class sees sees_digits sees_class right_side chain once opening number input part parts group next_part vector function_of_one function_of_two primary postfix signed branches whole
dot_product = simp values_by_parts

no_shape : shape_in (codes "[1, 2] + [1, 2, 3]") ≡ Some (None)
unfolding shape_in turns while tokens_from reading nested sign digits class sees sees_digits sees_class right_side chain once opening number input part parts group next_part vector function_of_one function_of_two primary postfix signed branches whole
no_shape = simp shapes_by_parts

vector_shape : shape_in (codes "[1, 2] + 3") ≡ Some (Some (2 ∷ []))
unfolding shape_in turns while tokens_from reading nested sign digits class sees sees_digits sees_class right_side chain once opening number input part parts group next_part vector function_of_one function_of_two primary postfix signed branches whole
vector_shape = simp shapes_by_parts

no_part : shape_in (codes "[1].1") ≡ Some (None)
unfolding shape_in turns while tokens_from reading nested sign digits class sees sees_digits sees_class right_side chain once opening number input part parts group next_part vector function_of_one function_of_two primary postfix signed branches whole
no_part = simp shapes_by_parts

one_part : shape_in (codes "$0.1") ≡ Some (Some [])
unfolding shape_in turns while tokens_from reading nested sign digits class sees sees_digits sees_class right_side chain once opening number input part parts group next_part vector function_of_one function_of_two primary postfix signed branches whole
one_part = simp shapes_by_parts
