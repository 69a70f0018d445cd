use Rattle.std.proofs.Common.{◌≡◌, pos, sym, ap, ◌∙◌, arith}
use mir.Syntax.{w128}
use Rattle.std.proofs.lemmas.Int.{to_z-of_z, to_z_pos}
use Rattle.dx_stats.specs.Statistics.{root}
use Rattle.dx_stats.proofs.Roots.{root_is}
use Rattle.dx_stats.proofs.statistics.root.Goals as goal

pub returns : goal.returns
returns c =
    let n = c.unsigned_abs.result in
    let r = c.isqrt.result in
    let is = rw (to_z-of_z w128 c.args.n c.ranges.n) at c.unsigned_abs.ensures.value in
    let found : root n ≡ r = root_is n r c.isqrt.ensures.square_le c.isqrt.ensures.next_square_gt in
    to_z_pos w128 r (omega arith) ∙ ap pos (sym found) ∙ ap (λ m. pos (root m)) is
