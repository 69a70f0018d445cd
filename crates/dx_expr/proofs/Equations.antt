-- The shape of each kind of expression, its values and the inputs in it, by those of its parts.
use Rattle.std.proofs.Common.{◌≡◌, ℕ, pos, List, [], ◌∷◌, Option, Some, None, sym, ap, ◌∙◌}
use Rattle.std.specs.Prelude.{◌==◌, ◌||◌, Bool, false, length, map, slice_index_or, if◌then◌else◌}
use Rattle.std.proofs.lemmas.List.{length-map}
use Rattle.dx_expr_grammar.specs.declared.tree.Unary.{Unary}
use Rattle.dx_expr_grammar.specs.declared.tree.Binary.{Binary}
use Rattle.dx_expr_grammar.specs.declared.tree.Expression.{Expression}
use Rattle.dx_expr_grammar.specs.declared.tree.Expression.TheVariants as e
use Rattle.dx_expr_grammar.specs.declared.tree.Expression.TheVariants.{rolls-Number, rolls-Input, rolls-Unary, rolls-Binary, rolls-Choice, rolls-Part, rolls-Vector}
use Rattle.dx_expr_grammar.specs.declared.tree.Expression.TheOpen.{Expression-F}
use Rattle.dx_expr_grammar.specs.declared.tree.Expression.TheFolds.{fold-roll-Expression}
use Rattle.dx_expr.specs.Shape.{Shape, shape_of, shape_step, single_if, has_part, unary_shape, binary_shape, choice_shape, with_one, with_two, all_single}
use Rattle.dx_expr.specs.Uses.{uses, uses_step, any_of}
use Rattle.dx_expr.specs.Value.{Inputs, Outcome, Values, value_of, value_step, input_values, binary_values, joined, the_value, is_zero, alone, checked, unary_value, each, ◌>>=◌}

module _ (inputs : ℕ → Shape) where
  pub shape_number : (n : ℕ) → shape_of inputs (e.Number n) ≡ Some []
  unfolding shape_of
  shape_number n = ap (shape_of inputs) (sym (rolls-Number n)) ∙ fold-roll-Expression (Option Shape) (shape_step inputs) (Expression-F.Number n)

  pub shape_input : (k : ℕ) → shape_of inputs (e.Input k) ≡ Some (inputs k)
  unfolding shape_of
  shape_input k = ap (shape_of inputs) (sym (rolls-Input k)) ∙ fold-roll-Expression (Option Shape) (shape_step inputs) (Expression-F.Input k)

  pub shape_unary : (o : Unary) (a : Expression) → shape_of inputs (e.Unary o a) ≡ with_one (unary_shape o) (shape_of inputs a)
  unfolding shape_of
  shape_unary o a = ap (shape_of inputs) (sym (rolls-Unary o a)) ∙ fold-roll-Expression (Option Shape) (shape_step inputs) (Expression-F.Unary o a)

  pub shape_binary : (o : Binary) (a b : Expression) → shape_of inputs (e.Binary o a b) ≡ with_two (binary_shape o) (shape_of inputs a) (shape_of inputs b)
  unfolding shape_of
  shape_binary o a b = ap (shape_of inputs) (sym (rolls-Binary o a b)) ∙ fold-roll-Expression (Option Shape) (shape_step inputs) (Expression-F.Binary o a b)

  pub shape_choice : (c a b : Expression) → shape_of inputs (e.Choice c a b) ≡ with_one (λ x. with_two (choice_shape x) (shape_of inputs a) (shape_of inputs b)) (shape_of inputs c)
  unfolding shape_of
  shape_choice c a b = ap (shape_of inputs) (sym (rolls-Choice c a b)) ∙ fold-roll-Expression (Option Shape) (shape_step inputs) (Expression-F.Choice c a b)

  pub shape_part : (a : Expression) (k : ℕ) → shape_of inputs (e.Part a k) ≡ with_one (λ x. single_if (has_part k x)) (shape_of inputs a)
  unfolding shape_of
  shape_part a k = ap (shape_of inputs) (sym (rolls-Part a k)) ∙ fold-roll-Expression (Option Shape) (shape_step inputs) (Expression-F.Part a k)

  pub shape_vector : (parts : List Expression) → shape_of inputs (e.Vector parts) ≡ (if all_single (map (shape_of inputs) parts) then Some (length parts ∷ []) else None)
  unfolding shape_of
  shape_vector parts =
      ap (shape_of inputs) (sym (rolls-Vector parts)) ∙ fold-roll-Expression (Option Shape) (shape_step inputs) (Expression-F.Vector parts)
      ∙ ap (λ n. if all_single (map (shape_of inputs) parts) then Some (n ∷ []) else None) (length-map parts (shape_of inputs))

module _ (inputs : Inputs) (item : ℕ) where
  pub value_number : (n : ℕ) → value_of inputs item (e.Number n) ≡ (checked (pos n) >>= alone)
  unfolding value_of
  value_number n = ap (value_of inputs item) (sym (rolls-Number n)) ∙ fold-roll-Expression (Outcome Values) (value_step inputs item) (Expression-F.Number n)

  pub value_input : (k : ℕ) → value_of inputs item (e.Input k) ≡ input_values inputs item k
  unfolding value_of
  value_input k = ap (value_of inputs item) (sym (rolls-Input k)) ∙ fold-roll-Expression (Outcome Values) (value_step inputs item) (Expression-F.Input k)

  pub value_unary : (o : Unary) (a : Expression) → value_of inputs item (e.Unary o a) ≡ (value_of inputs item a >>= each (unary_value o))
  unfolding value_of
  value_unary o a = ap (value_of inputs item) (sym (rolls-Unary o a)) ∙ fold-roll-Expression (Outcome Values) (value_step inputs item) (Expression-F.Unary o a)

  pub value_binary : (o : Binary) (a b : Expression) → value_of inputs item (e.Binary o a b) ≡ binary_values o (value_of inputs item a) (value_of inputs item b)
  unfolding value_of
  value_binary o a b = ap (value_of inputs item) (sym (rolls-Binary o a b)) ∙ fold-roll-Expression (Outcome Values) (value_step inputs item) (Expression-F.Binary o a b)

  pub value_choice : (c a b : Expression) → value_of inputs item (e.Choice c a b) ≡ (value_of inputs item c >>= λ x. if is_zero (the_value x) then value_of inputs item b else value_of inputs item a)
  unfolding value_of
  value_choice c a b = ap (value_of inputs item) (sym (rolls-Choice c a b)) ∙ fold-roll-Expression (Outcome Values) (value_step inputs item) (Expression-F.Choice c a b)

  pub value_part : (a : Expression) (k : ℕ) → value_of inputs item (e.Part a k) ≡ (value_of inputs item a >>= λ x. alone (slice_index_or x k (pos 0)))
  unfolding value_of
  value_part a k = ap (value_of inputs item) (sym (rolls-Part a k)) ∙ fold-roll-Expression (Outcome Values) (value_step inputs item) (Expression-F.Part a k)

  pub value_vector : (parts : List Expression) → value_of inputs item (e.Vector parts) ≡ joined (map (value_of inputs item) parts)
  unfolding value_of
  value_vector parts = ap (value_of inputs item) (sym (rolls-Vector parts)) ∙ fold-roll-Expression (Outcome Values) (value_step inputs item) (Expression-F.Vector parts)

module _ (k : ℕ) where
  pub uses_number : (n : ℕ) → uses k (e.Number n) ≡ false
  unfolding uses
  uses_number n = ap (uses k) (sym (rolls-Number n)) ∙ fold-roll-Expression Bool (uses_step k) (Expression-F.Number n)

  pub uses_input : (j : ℕ) → uses k (e.Input j) ≡ (j == k)
  unfolding uses
  uses_input j = ap (uses k) (sym (rolls-Input j)) ∙ fold-roll-Expression Bool (uses_step k) (Expression-F.Input j)

  pub uses_unary : (o : Unary) (a : Expression) → uses k (e.Unary o a) ≡ uses k a
  unfolding uses
  uses_unary o a = ap (uses k) (sym (rolls-Unary o a)) ∙ fold-roll-Expression Bool (uses_step k) (Expression-F.Unary o a)

  pub uses_binary : (o : Binary) (a b : Expression) → uses k (e.Binary o a b) ≡ (uses k a || uses k b)
  unfolding uses
  uses_binary o a b = ap (uses k) (sym (rolls-Binary o a b)) ∙ fold-roll-Expression Bool (uses_step k) (Expression-F.Binary o a b)

  pub uses_choice : (c a b : Expression) → uses k (e.Choice c a b) ≡ (uses k c || (uses k a || uses k b))
  unfolding uses
  uses_choice c a b = ap (uses k) (sym (rolls-Choice c a b)) ∙ fold-roll-Expression Bool (uses_step k) (Expression-F.Choice c a b)

  pub uses_part : (a : Expression) (j : ℕ) → uses k (e.Part a j) ≡ uses k a
  unfolding uses
  uses_part a j = ap (uses k) (sym (rolls-Part a j)) ∙ fold-roll-Expression Bool (uses_step k) (Expression-F.Part a j)

  pub uses_vector : (parts : List Expression) → uses k (e.Vector parts) ≡ any_of (map (uses k) parts)
  unfolding uses
  uses_vector parts = ap (uses k) (sym (rolls-Vector parts)) ∙ fold-roll-Expression Bool (uses_step k) (Expression-F.Vector parts)

pub ruleset shapes_by_parts = (shape_number, shape_input, shape_unary, shape_binary, shape_choice, shape_part, shape_vector)

pub ruleset values_by_parts = (value_number, value_input, value_unary, value_binary, value_choice, value_part, value_vector)

pub ruleset uses_by_parts = (uses_number, uses_input, uses_unary, uses_binary, uses_choice, uses_part, uses_vector)
