use Rattle.std.proofs.Common.{◌≡◌, None, Some, sym, ap, ◌∙◌}
use Rattle.dx_base.specs.Array.{origin_of, deltas_of}
use Rattle.dx_arrays.specs.Makes.{refusal}
use Rattle.dx_slab.specs.Cuts.{cut_counts, moved}
use Rattle.dx_slab.proofs.Shifting.{points_are, positions_refusal, positions_are, same_positions}
use Rattle.dx_slab.proofs.cut.cut_positions.Goals as goal

pub unreachable-requires : goal.unreachable-requires
unreachable-requires c =
    let a = c.args.array.now in
    let cs = c.args.counts.now in
    let cut = c.args.cut in
    let o = origin_of a.class in
    let ds = deltas_of a.class in
    let points = points_are a cs c.items-items.ensures.lawful c.requires.points in
    let same = same_positions c.in_ok-counts.counts.items (cut_counts cs cut) c.in_ok-origin.origin.items (moved o ds cut) c.in_ok-deltas.deltas.items ds c.in_ok-counts.ensures c.in_ok-origin.ensures (c.in_ok-deltas.ensures.items ∙ c.deltas.ensures) in
    let clash : None ≡ Some c.in-Err.field-0 = sym (ap refusal same ∙ positions_refusal a cs o ds cut c.items-items.ensures.lawful points c.requires.cut) ∙ c.in-Err.ensures in
    cc

pub returns : goal.returns
returns c =
    let a = c.args.array.now in
    let cs = c.args.counts.now in
    let cut = c.args.cut in
    let o = origin_of a.class in
    let ds = deltas_of a.class in
    let points = points_are a cs c.items-items.ensures.lawful c.requires.points in
    c.in-Ok.ensures.0
    ∙ same_positions c.in_ok-counts.counts.items (cut_counts cs cut) c.in_ok-origin.origin.items (moved o ds cut) c.in_ok-deltas.deltas.items ds c.in_ok-counts.ensures c.in_ok-origin.ensures (c.in_ok-deltas.ensures.items ∙ c.deltas.ensures)
    ∙ positions_are a cs o ds cut c.items-items.ensures.lawful points c.requires.cut
