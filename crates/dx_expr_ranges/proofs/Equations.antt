-- Where the values of each kind of expression lie, by those of its parts.
use Rattle.std.proofs.Common.{◌≡◌, ℕ, List, Option, sym, ap, ◌∙◌}
use Rattle.std.specs.Prelude.{map}
use Rattle.dx_expr_grammar.specs.declared.tree.Unary.{Unary}
use Rattle.dx_expr_grammar.specs.declared.tree.Binary.{Binary}
use Rattle.dx_expr_grammar.specs.declared.tree.Expression.{Expression}
use Rattle.dx_expr_grammar.specs.declared.tree.Expression.TheVariants as e
use Rattle.dx_expr_grammar.specs.declared.tree.Expression.TheVariants.{rolls-Number, rolls-Input, rolls-Unary, rolls-Binary, rolls-Choice, rolls-Part, rolls-Vector}
use Rattle.dx_expr_grammar.specs.declared.tree.Expression.TheOpen.{Expression-F}
use Rattle.dx_expr_grammar.specs.declared.tree.Expression.TheFolds.{fold-roll-Expression}
use Rattle.dx_expr_ranges.specs.declared.range.Range.{Range}
use Rattle.dx_expr_ranges.specs.Ranges.{range_of, range_step, number, known, given_for, of_one, of_two, either, part, none, with_one, with_two, all_of}

module _ (ranges : List (Option Range)) where
  pub range_number : (n : ℕ) → range_of ranges (e.Number n) ≡ number n
  unfolding range_of
  range_number n = ap (range_of ranges) (sym (rolls-Number n)) ∙ fold-roll-Expression (Option Range) (range_step ranges) (Expression-F.Number n)

  pub range_input : (k : ℕ) → range_of ranges (e.Input k) ≡ with_one known (given_for ranges k)
  unfolding range_of
  range_input k = ap (range_of ranges) (sym (rolls-Input k)) ∙ fold-roll-Expression (Option Range) (range_step ranges) (Expression-F.Input k)

  pub range_unary : (o : Unary) (a : Expression) → range_of ranges (e.Unary o a) ≡ with_one (of_one o) (range_of ranges a)
  unfolding range_of
  range_unary o a = ap (range_of ranges) (sym (rolls-Unary o a)) ∙ fold-roll-Expression (Option Range) (range_step ranges) (Expression-F.Unary o a)

  pub range_binary : (o : Binary) (a b : Expression) → range_of ranges (e.Binary o a b) ≡ with_two (of_two o) (range_of ranges a) (range_of ranges b)
  unfolding range_of
  range_binary o a b = ap (range_of ranges) (sym (rolls-Binary o a b)) ∙ fold-roll-Expression (Option Range) (range_step ranges) (Expression-F.Binary o a b)

  pub range_choice : (c a b : Expression) → range_of ranges (e.Choice c a b) ≡ with_one (λ x. with_two either (range_of ranges a) (range_of ranges b)) (range_of ranges c)
  unfolding range_of
  range_choice c a b = ap (range_of ranges) (sym (rolls-Choice c a b)) ∙ fold-roll-Expression (Option Range) (range_step ranges) (Expression-F.Choice c a b)

  pub range_part : (a : Expression) (k : ℕ) → range_of ranges (e.Part a k) ≡ with_one (part k) (range_of ranges a)
  unfolding range_of
  range_part a k = ap (range_of ranges) (sym (rolls-Part a k)) ∙ fold-roll-Expression (Option Range) (range_step ranges) (Expression-F.Part a k)

  pub range_vector : (parts : List Expression) → range_of ranges (e.Vector parts) ≡ all_of none (map (range_of ranges) parts)
  unfolding range_of
  range_vector parts = ap (range_of ranges) (sym (rolls-Vector parts)) ∙ fold-roll-Expression (Option Range) (range_step ranges) (Expression-F.Vector parts)

pub ruleset ranges_by_parts = (range_number, range_input, range_unary, range_binary, range_choice, range_part, range_vector)
