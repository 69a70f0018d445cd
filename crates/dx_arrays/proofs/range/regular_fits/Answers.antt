use Rattle.std.proofs.Common.{◌∙◌, arith}
use Rattle.dx_arrays.proofs.InType.{regular_in_type}
use Rattle.dx_arrays.proofs.range.regular_fits.Goals as goal

pub returns-else-items-eq0 : goal.returns-else-items-eq0
returns-else-items-eq0 c =
    c.do_lines_fit.ensures ∙ regular_in_type c.args.t c.args.extents.now c.args.items c.args.origin.now c.args.delta.now (omega arith) c.requires.origin
