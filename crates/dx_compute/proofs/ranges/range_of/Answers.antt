use Rattle.std.proofs.Common.{arith}
use Rattle.dx_compute_meaning.proofs.Codes.{lawful_shape}
use Rattle.dx_compute.proofs.Keeping.{keeps_reach, width_few}
use Rattle.dx_compute.proofs.ranges.range_of.Goals as goal

pub overflow_cast-width : goal.overflow_cast-width
overflow_cast-width c =
    let few = width_few c.args.array.now.extents (lawful_shape c.args.array.now c.width.ensures.lawful) in
    omega (arith, few, c.width.ensures.width)

pub returns : goal.returns
returns c = keeps_reach c.args.array.now c.args.from c.args.to c.width.result c.in_ok-reach.reach c.range.result c.width.ensures.width c.range.ensures c.in_ok-reach.ensures
