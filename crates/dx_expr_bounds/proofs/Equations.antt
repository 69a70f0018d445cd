-- What bounds each kind of expression, by its parts.
use Rattle.std.proofs.Common.{◌≡◌, ℕ, List, [], ◌∷◌, true, sym, ap, ◌∙◌}
use Rattle.std.specs.Prelude.{Bool, ◌&&◌, nat_le, length, map}
use Rattle.std.proofs.lemmas.List.{length-map}
use Rattle.dx_expr_grammar.specs.declared.tree.Unary.{Unary}
use Rattle.dx_expr_grammar.specs.declared.tree.Binary.{Binary}
use Rattle.dx_expr_grammar.specs.declared.tree.Expression.{Expression}
use Rattle.dx_expr_grammar.specs.declared.tree.Expression.TheVariants as e
use Rattle.dx_expr_grammar.specs.declared.tree.Expression.TheVariants.{rolls-Number, rolls-Input, rolls-Unary, rolls-Binary, rolls-Choice, rolls-Part, rolls-Vector}
use Rattle.dx_expr_grammar.specs.declared.tree.Expression.TheOpen.{Expression-F}
use Rattle.dx_expr_grammar.specs.declared.tree.Expression.TheFolds.{fold-roll-Expression}
use Rattle.dx_expr_bounds.specs.Bounds.{is_bounded, bounded_step, all_of, is_width}

pub bounded_number : (n : ℕ) → is_bounded (e.Number n) ≡ true
unfolding is_bounded
bounded_number n = ap is_bounded (sym (rolls-Number n)) ∙ fold-roll-Expression Bool bounded_step (Expression-F.Number n)

pub bounded_input : (k : ℕ) → is_bounded (e.Input k) ≡ nat_le k 20
unfolding is_bounded
bounded_input k = ap is_bounded (sym (rolls-Input k)) ∙ fold-roll-Expression Bool bounded_step (Expression-F.Input k)

pub bounded_unary : (o : Unary) (a : Expression) → is_bounded (e.Unary o a) ≡ is_bounded a
unfolding is_bounded
bounded_unary o a = ap is_bounded (sym (rolls-Unary o a)) ∙ fold-roll-Expression Bool bounded_step (Expression-F.Unary o a)

pub bounded_binary : (o : Binary) (a b : Expression) → is_bounded (e.Binary o a b) ≡ (is_bounded a && is_bounded b)
unfolding is_bounded
bounded_binary o a b = ap is_bounded (sym (rolls-Binary o a b)) ∙ fold-roll-Expression Bool bounded_step (Expression-F.Binary o a b)

pub bounded_choice : (c a b : Expression) → is_bounded (e.Choice c a b) ≡ (is_bounded c && (is_bounded a && is_bounded b))
unfolding is_bounded
bounded_choice c a b = ap is_bounded (sym (rolls-Choice c a b)) ∙ fold-roll-Expression Bool bounded_step (Expression-F.Choice c a b)

pub bounded_part : (a : Expression) (k : ℕ) → is_bounded (e.Part a k) ≡ is_bounded a
unfolding is_bounded
bounded_part a k = ap is_bounded (sym (rolls-Part a k)) ∙ fold-roll-Expression Bool bounded_step (Expression-F.Part a k)

pub bounded_vector : (parts : List Expression) → is_bounded (e.Vector parts) ≡ (is_width (length parts) && all_of (map is_bounded parts))
unfolding is_bounded
bounded_vector parts =
    ap is_bounded (sym (rolls-Vector parts)) ∙ fold-roll-Expression Bool bounded_step (Expression-F.Vector parts)
    ∙ ap (λ n. is_width n && all_of (map is_bounded parts)) (length-map parts is_bounded)
