use Rattle.std.proofs.Common.{pos}
use Rattle.std.specs.Prelude.{slice_index_or}
use Rattle.dx_expr_blocks.proofs.sure.are_sure.Goals as goal

pub returns : goal.returns
returns g c = λ sure k below.
    c.is_sure.ensures sure (slice_index_or c.args.left.now k (pos 0)) (g.R.Side.value c.args.right.now k) (c.reach.ensures k below) (c.reach-2.ensures k (c.requires k below))
