use Rattle.std.proofs.Common.{◌<◌, ◌∙◌, arith}
use Rattle.dx_base.specs.Array.{product}
use Rattle.dx_arrays.proofs.InType.{plain_in_type}
use Rattle.dx_arrays.proofs.range.plain_fits.Goals as goal

pub returns : goal.returns
returns c =
    let some : 0 < product c.args.extents.now = omega (arith, c.width-width.ensures.width, c.width-width.ensures.some) in
    c.are_in_range.ensures ∙ plain_in_type c.args.t c.args.extents.now c.args.values.now some c.requires
