use Rattle.std.proofs.Common.{◌<◌, ◌∙◌, arith}
use Rattle.dx_base.specs.Array.{product}
use Rattle.dx_base.specs.declared.elem.ElemType.TheVariants.{Int}
use Rattle.dx_arrays.proofs.InType.{plain_in_type}
use Rattle.dx_arrays.proofs.range.ints_fit.Goals as goal

pub returns : goal.returns
returns c =
    let some : 0 < product c.args.extents.now = omega (arith, c.width-width.ensures.width, c.width-width.ensures.some) in
    c.are_ints.ensures ∙ plain_in_type Int c.args.extents.now c.args.values.now some c.requires
