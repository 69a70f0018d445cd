use Rattle.std.proofs.Common.{◌≡◌, None, Some, sym, ap, ◌∙◌}
use Rattle.dx_arrays.specs.Makes.{refusal}
use Rattle.dx_slab.specs.Runs.{run_values}
use Rattle.dx_slab.proofs.Gathering.{runs_refusal, gathered_runs, same_plain}
use Rattle.dx_slab.proofs.cut.made.Goals as goal

pub unreachable-requires : goal.unreachable-requires
unreachable-requires c =
    let a = c.args.array.now in
    let r = c.args.runs in
    let same = same_plain c.elem.result a.elem c.from_vec-shape.result a.extents c.in_ok-values.values.items (run_values a r r.count) c.elem.ensures (c.from_vec-shape.ensures ∙ c.in_ok-from_slice.ensures.items ∙ c.extents.ensures) c.in_ok-values.ensures in
    let clash : None ≡ Some c.in-Err.field-0 = sym (ap refusal same ∙ runs_refusal a r c.items-items.ensures.lawful c.requires) ∙ c.in-Err.ensures in
    cc

pub returns : goal.returns
returns c =
    let a = c.args.array.now in
    let r = c.args.runs in
    c.in-Ok.ensures.0
    ∙ same_plain c.elem.result a.elem c.from_vec-shape.result a.extents c.in_ok-values.values.items (run_values a r r.count) c.elem.ensures (c.from_vec-shape.ensures ∙ c.in_ok-from_slice.ensures.items ∙ c.extents.ensures) c.in_ok-values.ensures
    ∙ gathered_runs a r
