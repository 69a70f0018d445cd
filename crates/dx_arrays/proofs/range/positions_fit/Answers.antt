use Rattle.std.proofs.Common.{◌∙◌}
use Rattle.dx_arrays.proofs.InType.{positions_in_type}
use Rattle.dx_arrays.proofs.range.positions_fit.Goals as goal

pub returns : goal.returns
returns c = c.do_points_fit.ensures ∙ positions_in_type c.args.counts.now c.args.origin.now c.args.deltas.now c.requires.counts
