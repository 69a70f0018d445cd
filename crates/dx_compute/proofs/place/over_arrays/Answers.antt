use Rattle.std.proofs.Common.{◌≡◌, sym, ap, subst, ◌∙◌}
use Rattle.dx_base.specs.Answers.{Answers}
use Rattle.dx_compute_meaning.specs.Arrays.{arrays_for, computed, item_count}
use Rattle.dx_compute_meaning.specs.Compute.{finished, first_field}
use Rattle.dx_compute_meaning.specs.Shown.{shown, shown_arrays, code_in}
use Rattle.dx_compute_meaning.proofs.Codes.{answered_first}
use Rattle.dx_compute.proofs.place.over_arrays.Goals as goal

pub returns : goal.returns
returns c =
    let vs = shown c.args.operands.now in
    let e = c.args.e.now in
    let arrays = shown_arrays c.in_ok-arrays.arrays in
    let counted : c.item_count-items.result ≡ item_count arrays = c.item_count-items.ensures.count ∙ ap (λ l. item_count (shown_arrays l)) c.as_slice.ensures in
    subst (λ t. Answers code_in t c.placed.result)
    (sym (answered_first (arrays_for vs) (λ arrays. finished (item_count arrays) (first_field vs) (computed e arrays)) arrays c.in_ok-arrays.ensures
    ∙ ap (λ n. finished n (first_field vs) (computed e arrays)) (sym counted)
    ∙ ap (λ l. finished c.item_count-items.result (first_field vs) (computed e (shown_arrays l))) (sym c.as_slice-2.ensures)))
    (c.placed.ensures (computed e (shown_arrays c.as_slice-2.result.now)) c.in_ok-array.ensures)
