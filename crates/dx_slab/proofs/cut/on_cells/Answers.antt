use Rattle.std.proofs.Common.{◌<◌, ◌≤◌, sym, ap, subst, ◌∙◌}
use Rattle.std.specs.List.{All}
use Rattle.dx_base.specs.Array.{product}
use Rattle.dx_slab.proofs.Gathering.{itemed}
use Rattle.dx_slab.proofs.Joining.{extents_some}
use Rattle.dx_slab.proofs.cut.on_cells.Goals as goal

pub runs_of-runs-requires-clause-some : goal.runs_of-runs-requires-clause-some
runs_of-runs-requires-clause-some c =
    subst (λ es. All (λ e. 0 < e) es) (sym (c.as_slice.ensures.value ∙ c.in_ok-extents.ensures)) (extents_some c.args.counts.now c.requires.cut.counts.some)

pub runs_of-runs-requires-clause-few : goal.runs_of-runs-requires-clause-few
runs_of-runs-requires-clause-few c =
    subst (λ n. n ≤ 16777216) (c.requires.items ∙ ap product (sym (c.as_slice.ensures.value ∙ c.in_ok-extents.ensures))) (itemed c.args.array.now c.items-items.ensures.lawful)
