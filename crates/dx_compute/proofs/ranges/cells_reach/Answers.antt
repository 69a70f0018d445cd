use Rattle.std.proofs.Common.{min, refl, ap, ◌∙◌, w64, arith}
use Rattle.std.proofs.lemmas.Int.{to_z_pos}
use Rattle.dx_base.specs.Array.{product}
use Rattle.dx_compute.proofs.Keeping.{cells_run}
use Rattle.dx_compute.proofs.ranges.cells_reach.Goals as goal

pub returns : goal.returns
returns c =
    let points = c.point_count-points.result in
    let many = c.point_count-points.ensures ∙ ap (λ cs. min (product cs) 18446744073709551615) c.counts.ensures in
    cells_run c.args.array.now _ points c.width-width.ensures.lawful c.requires many c.if-points-gt2147483647.false refl (to_z_pos w64 points (omega (arith, c.if-points-gt2147483647.false))) refl
