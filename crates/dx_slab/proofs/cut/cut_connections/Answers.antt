use Rattle.std.proofs.Common.{◌≡◌, None, Some, sym, ap, ◌∙◌}
use Rattle.dx_arrays.specs.Makes.{refusal}
use Rattle.dx_slab.proofs.Joining.{joined_refusal, connections_array}
use Rattle.dx_slab.proofs.cut.cut_connections.Goals as goal

pub unreachable-requires : goal.unreachable-requires
unreachable-requires c =
    let same = ap connections_array c.in_ok-joined.ensures in
    let clash : None ≡ Some c.in-Err.field-0 = sym (ap refusal same ∙ joined_refusal c.args.array.now c.args.counts.now c.args.cut c.items-items.ensures.lawful c.requires.cells c.requires.cut c.requires.some) ∙ c.in-Err.ensures in
    cc
