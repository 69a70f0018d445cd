use Rattle.std.proofs.Common.{◌≡◌, ◌<◌, ◌+◌, ◌-◌, ◌*◌, pos, length, arith, sym, ap, subst, ◌∙◌}
use Rattle.std.specs.Prelude.{slice_index_or}
use Rattle.std.proofs.lemmas.List.{get_or_read}
use Rattle.dx_expr_grammar.specs.declared.tree.Expression.TheVariants as e
use Rattle.dx_expr.specs.Shape.{shape_of}
use Rattle.dx_expr_columns.specs.Columns.{part_at}
use Rattle.dx_expr_blocks.specs.Found.{run_found}
use Rattle.dx_expr_eval.specs.Rows.{HaveValues}
use Rattle.dx_expr_eval.proofs.InRows.{whole_slice, rows_more}
use Rattle.dx_expr_eval.proofs.rows.component_rows.Goals as goal

pub loop-place-preserved : goal.loop-place-preserved
loop-place-preserved g c =
    let inputs = g.I.Inputs.given c.args.inputs.now in
    let columns = c.args.columns.now in
    let w = length columns in
    let place = c.loop-place.place in
    let old = c.loop-place.values.items in
    let new = c.place_column.new.rows in
    let found = c.in_ok-found.found in
    let same : length new ≡ length old = c.place_column.ensures.length ∙ ap length c.as_mut_slice.ensures.value in
    let back = whole_slice c.loop-place.values.len new old (omega (arith, c.loop-place.values.ok.0)) same in
    let in_row : place < w = omega (arith, c.loop-place.auto.place-end) in
    let is : part_at columns place ≡ c.index-columns-place.result = sym (get_or_read columns place c.index-columns-place.result in_row c.index-columns-place.is (e.Number 0)) in
    let few = c.min-count.ensures in
    let have : HaveValues inputs columns (place + 1) c.args.from c.min-count.result w new =
    rows_more inputs columns c.index-columns-place.result c.args.from (c.args.to - c.args.from) place c.loop-place.count c.min-count.result w (run_found found) old new is (ap (shape_of inputs.shape) (sym is) ∙ c.requires.singles place in_row) c.in_ok-found.ensures (omega (arith, few)) (omega (arith, few, c.len.ensures, found.values.ok.0)) in_row c.loop-place.invariant.values
    (λ i below. c.place_column.ensures.column i below ∙ ap (λ l. slice_index_or l i (pos 0)) c.as_slice.ensures.value)
    (λ i j below other. c.place_column.ensures.others i j below other ∙ ap (λ l. slice_index_or l (i * w + j) (pos 0)) c.as_mut_slice.ensures.value) in
    record {
      count = omega (arith, few, c.loop-place.invariant.count);
      size = ap length back ∙ same ∙ c.loop-place.invariant.size;
      values = subst (λ l. HaveValues inputs columns (place + 1) c.args.from c.min-count.result w l) (sym back) have;
    }
