use Rattle.std.proofs.Common.{sym, ◌∙◌}
use Rattle.dx_compute.proofs.Keeping.{constant_run}
use Rattle.dx_compute.proofs.ranges.run_reach.Goals as goal

pub returns-in-Constant : goal.returns-in-Constant
returns-in-Constant c = constant_run c.args.array.now c.item_reach.result c.args.from c.args.to (sym c.class.ensures ∙ c.in-Constant.is) c.item_reach.ensures
