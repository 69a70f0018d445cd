use Rattle.std.proofs.Common.{◌≡◌, ◌<◌, ◌+◌, ◌*◌, pos, length, w32, to_z, of_z, to_z-of_z, rules, arith, ◌∙◌}
use Rattle.std.specs.Prelude.{slice_index_or}
use Rattle.std.proofs.lemmas.List.{length-set, get_or-set_other}
use Rattle.std.proofs.lemmas.Nat.{mul-add-lt, same_from_place}
use mir.Val.{SFits}
use Rattle.dx_expr_eval.proofs.InRows.{placed}
use Rattle.dx_expr_eval.proofs.rows.place_column.Goals as goal

pub loop-row-preserved : goal.loop-row-preserved
loop-row-preserved c =
    let rows = c.loop-row.rows in
    let r = c.loop-row.row in
    let w = c.args.width in
    let place = c.args.place in
    let v = slice_index_or c.args.values.now r (pos 0) in
    let fits : SFits w32 v = search rules in
    let is : to_z w32 (of_z w32 v) ≡ v = to_z-of_z fits in
    let r_below : r < c.args.count = omega (arith, c.loop-row.auto.row-end) in
    let within : r * w + place < length rows = omega (arith, mul-add-lt r w place c.args.count r_below c.requires.place, c.requires.room, c.loop-row.invariant.size) in
    record {
      size = length-set rows (r * w + place) (to_z w32 (of_z w32 v)) ∙ c.loop-row.invariant.size;
      column = placed rows c.args.values.now w place r (to_z w32 (of_z w32 v)) is c.requires.place within c.loop-row.invariant.column;
      others = λ i j in_row other. get_or-set_other rows (r * w + place) (i * w + j) (to_z w32 (of_z w32 v)) (pos 0) (λ e. other (same_from_place i j r place w in_row c.requires.place e).1) ∙ c.loop-row.invariant.others i j in_row other;
    }
