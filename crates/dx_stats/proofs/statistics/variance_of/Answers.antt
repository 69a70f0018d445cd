use Rattle.std.proofs.Common.{◌*◌, ap, ◌∙◌}
use mir.Syntax.{w128}
use Rattle.std.proofs.lemmas.Int.{to_z-of_z}
use Rattle.dx_stats.specs.Statistics.{floor}
use Rattle.dx_stats.proofs.statistics.variance_of.Goals as goal

pub returns : goal.returns
returns c =
    let n = c.args.sums.count * c.args.sums.count in
    let passed = to_z-of_z w128 c.spread_of.result (record { sfits = c.spread_of.type_inv }) in
    to_z-of_z w128 c.floor.result (record { sfits = c.floor.type_inv }) ∙ c.floor.ensures ∙ ap (λ z. floor z n) passed ∙ ap (λ z. floor z n) c.spread_of.ensures
