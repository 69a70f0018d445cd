-- The component of each kind of expression, by those of its parts.
use Rattle.std.proofs.Common.{◌≡◌, ℕ, zero, suc, ◌<◌, List, [], ◌∷◌, length, get_or, refl, sym, ap, subst, ◌∙◌, arith}
use Rattle.std.specs.Prelude.{map}
use Rattle.dx_expr_grammar.specs.declared.tree.Unary.{Unary}
use Rattle.dx_expr_grammar.specs.declared.tree.Binary.{Binary}
use Rattle.dx_expr_grammar.specs.declared.tree.Expression.{Expression, roll-Expression, out-Expression}
use Rattle.dx_expr_grammar.specs.declared.tree.Expression.TheViews.{roll-out-Expression}
use Rattle.dx_expr_grammar.specs.declared.tree.Expression.TheVariants as e
use Rattle.dx_expr_grammar.specs.declared.tree.Expression.TheVariants.{rolls-Number, rolls-Input, rolls-Unary, rolls-Binary, rolls-Choice, rolls-Part, rolls-Vector}
use Rattle.dx_expr_grammar.specs.declared.tree.Expression.TheOpen.{Expression-F}
use Rattle.dx_expr_grammar.specs.declared.tree.Expression.TheFolds.{fold-roll-Expression}
use Rattle.dx_expr.specs.Shape.{Shape}
use Rattle.dx_expr.specs.Value.{sides_of}
use Rattle.dx_expr.proofs.Nodes.{nodes, in_unary, in_left, in_right, in_condition, in_one, in_other, in_part, in_vector, in_parts}
use Rattle.dx_expr_columns.specs.Columns.{column_step, with_column, column, column_of_input, part_at, where_by_value}

module _ (inputs : ℕ → Shape) (place : ℕ) where
  abbrev W : Expression → Expression × Expression
  W x = with_column inputs place x

  abbrev step : Expression-F (Expression × Expression) → Expression × Expression
  step l = column_step inputs place l

  with_number : (n : ℕ) → W (e.Number n) ≡ step (Expression-F.Number n)
  unfolding with_column
  with_number n = ap W (sym (rolls-Number n)) ∙ fold-roll-Expression (Expression × Expression) step (Expression-F.Number n)

  with_input : (k : ℕ) → W (e.Input k) ≡ step (Expression-F.Input k)
  unfolding with_column
  with_input k = ap W (sym (rolls-Input k)) ∙ fold-roll-Expression (Expression × Expression) step (Expression-F.Input k)

  with_unary : (o : Unary) (a : Expression) → W (e.Unary o a) ≡ step (Expression-F.Unary o (W a))
  unfolding with_column
  with_unary o a = ap W (sym (rolls-Unary o a)) ∙ fold-roll-Expression (Expression × Expression) step (Expression-F.Unary o a)

  with_binary : (o : Binary) (a b : Expression) → W (e.Binary o a b) ≡ step (Expression-F.Binary o (W a) (W b))
  unfolding with_column
  with_binary o a b = ap W (sym (rolls-Binary o a b)) ∙ fold-roll-Expression (Expression × Expression) step (Expression-F.Binary o a b)

  with_choice : (c a b : Expression) → W (e.Choice c a b) ≡ step (Expression-F.Choice (W c) (W a) (W b))
  unfolding with_column
  with_choice c a b = ap W (sym (rolls-Choice c a b)) ∙ fold-roll-Expression (Expression × Expression) step (Expression-F.Choice c a b)

  with_part : (a : Expression) (k : ℕ) → W (e.Part a k) ≡ step (Expression-F.Part (W a) k)
  unfolding with_column
  with_part a k = ap W (sym (rolls-Part a k)) ∙ fold-roll-Expression (Expression × Expression) step (Expression-F.Part a k)

  with_vector : (parts : List Expression) → W (e.Vector parts) ≡ step (Expression-F.Vector (map W parts))
  unfolding with_column
  with_vector parts = ap W (sym (rolls-Vector parts)) ∙ fold-roll-Expression (Expression × Expression) step (Expression-F.Vector parts)

  -- ---- the tree that stands beside its component is the tree itself

  record Whole (x : Expression) : Type 0 where
    pub is : (W x).0 ≡ x

  wholes : (parts : List Expression) → ((i : ℕ) (d : Expression) → i < length parts → Whole (get_or parts i d)) → map (λ p. p.0) (map W parts) ≡ parts
  wholes [] laws = refl
  wholes (a ∷ parts) laws =
      ap (λ b. b ∷ map (λ (p : Expression × Expression). p.0) (map W parts)) (laws 0 a (omega arith)).is ∙ ap (λ l. a ∷ l) (wholes parts (λ i d below. laws (suc i) d (omega arith)))

  layer_whole : (l : Expression-F Expression) → ((a : Expression) → nodes a < nodes (roll-Expression l) → Whole a) → Whole (roll-Expression l)
  layer_whole (Expression-F.Number n) laws = subst Whole (sym (rolls-Number n)) (record { is = ap (λ p. p.0) (with_number n) })
  layer_whole (Expression-F.Input k) laws = subst Whole (sym (rolls-Input k)) (record { is = ap (λ p. p.0) (with_input k) })
  layer_whole (Expression-F.Unary o a) laws = subst Whole (sym (rolls-Unary o a)) (record { is = ap (λ p. p.0) (with_unary o a) ∙ ap (e.Unary o) (laws a (in_unary _ o a a (rolls-Unary o a) refl)).is })
  layer_whole (Expression-F.Binary o a b) laws = subst Whole (sym (rolls-Binary o a b)) (record {
    is = ap (λ p. p.0) (with_binary o a b)
        ∙ ap (λ x. e.Binary o x (W b).0) (laws a (in_left _ o a b a (rolls-Binary o a b) refl)).is
        ∙ ap (e.Binary o a) (laws b (in_right _ o a b b (rolls-Binary o a b) refl)).is;
  })
  layer_whole (Expression-F.Choice c a b) laws = subst Whole (sym (rolls-Choice c a b)) (record {
    is = ap (λ p. p.0) (with_choice c a b)
        ∙ ap (λ x. e.Choice x (W a).0 (W b).0) (laws c (in_condition _ c a b c (rolls-Choice c a b) refl)).is
        ∙ ap (λ x. e.Choice c x (W b).0) (laws a (in_one _ c a b a (rolls-Choice c a b) refl)).is
        ∙ ap (e.Choice c a) (laws b (in_other _ c a b b (rolls-Choice c a b) refl)).is;
  })
  layer_whole (Expression-F.Part a k) laws = subst Whole (sym (rolls-Part a k)) (record { is = ap (λ p. p.0) (with_part a k) ∙ ap (λ x. e.Part x k) (laws a (in_part _ a k a (rolls-Part a k) refl)).is })
  layer_whole (Expression-F.Vector parts) laws = subst Whole (sym (rolls-Vector parts)) (record {
    is = ap (λ p. p.0) (with_vector parts) ∙ ap e.Vector (wholes parts (λ i d below.
        let h = in_parts parts i d (get_or parts i d) below refl in
        let g = in_vector (roll-Expression (Expression-F.Vector parts)) parts parts (rolls-Vector parts) refl in
        laws (get_or parts i d) (omega arith)));
  })

  by_size : (n : ℕ) (x : Expression) → nodes x < n → Whole x
  by_size zero x h = absurd (omega arith)
  by_size (suc n) x h = subst Whole (roll-out-Expression x) (layer_whole (out-Expression x) (λ a below. let g : nodes (roll-Expression (out-Expression x)) ≡ nodes x = ap nodes (roll-out-Expression x) in by_size n a (omega arith)))

  whole : (x : Expression) → (W x).0 ≡ x
  whole x = (by_size (suc (nodes x)) x (omega arith)).is

  all_whole : (parts : List Expression) → map (λ p. p.0) (map W parts) ≡ parts
  all_whole parts = wholes parts (λ i d below. by_size (suc (nodes (get_or parts i d))) (get_or parts i d) (omega arith))

  -- ---- components

  pub column_number : (n : ℕ) → column inputs place (e.Number n) ≡ e.Number n
  unfolding column
  column_number n = ap (λ p. p.1) (with_number n)

  pub column_input : (k : ℕ) → column inputs place (e.Input k) ≡ column_of_input inputs place k
  unfolding column
  column_input k = ap (λ p. p.1) (with_input k)

  pub column_unary : (o : Unary) (a : Expression) → column inputs place (e.Unary o a) ≡ e.Unary o (column inputs place a)
  unfolding column
  column_unary o a = ap (λ p. p.1) (with_unary o a)

  pub column_binary : (o : Binary) (a b : Expression) → column inputs place (e.Binary o a b) ≡ where_by_value (sides_of o) (e.Binary o (column inputs place a) (column inputs place b)) (e.Binary o a b)
  unfolding column
  column_binary o a b =
      ap (λ p. p.1) (with_binary o a b)
      ∙ ap (λ x. where_by_value (sides_of o) (e.Binary o (W a).1 (W b).1) (e.Binary o x (W b).0)) (whole a)
      ∙ ap (λ x. where_by_value (sides_of o) (e.Binary o (W a).1 (W b).1) (e.Binary o a x)) (whole b)

  pub column_choice : (c a b : Expression) → column inputs place (e.Choice c a b) ≡ e.Choice c (column inputs place a) (column inputs place b)
  unfolding column
  column_choice c a b = ap (λ p. p.1) (with_choice c a b) ∙ ap (λ x. e.Choice x (W a).1 (W b).1) (whole c)

  pub column_part : (a : Expression) (k : ℕ) → column inputs place (e.Part a k) ≡ e.Part a k
  unfolding column
  column_part a k = ap (λ p. p.1) (with_part a k) ∙ ap (λ x. e.Part x k) (whole a)

  pub column_vector : (parts : List Expression) → column inputs place (e.Vector parts) ≡ part_at parts place
  unfolding column
  column_vector parts = ap (λ p. p.1) (with_vector parts) ∙ ap (λ l. part_at l place) (all_whole parts)

pub ruleset columns_by_parts = (column_number, column_input, column_unary, column_binary, column_choice, column_part, column_vector)
