use Rattle.std.proofs.Common.{ℕ, ◌++◌, ◌∷◌, [], ap, sym, ◌∙◌}
use Rattle.std.specs.Prelude.{map}
use Rattle.std.specs.List.{range_with_len}
use Rattle.dx_expr_grammar.specs.declared.tree.Expression.{Expression}
use Rattle.dx_expr_columns.specs.Columns.{column}
use Rattle.dx_expr_eval.proofs.Making.{first_more}
use Rattle.dx_expr_eval.proofs.columns.first_columns.Goals as goal

pub loop-place-preserved : goal.loop-place-preserved
loop-place-preserved g c =
    let f : ℕ → Expression = λ j. column (g.I.Inputs.given c.args.inputs.now).shape j c.args.e.now in
    let n = c.loop-place.place in
    c.in_ok-push.ensures.ok ∙ ap (λ l. l ++ c.in_ok-column.field-0 ∷ []) c.loop-place.invariant ∙ ap (λ x. map f (range_with_len 0 n) ++ x ∷ []) c.in_ok-column.ensures ∙ sym (first_more f n)
