use Rattle.dx_compute.proofs.Keeping.{run_more}
use Rattle.dx_compute.proofs.ranges.each_reach.Goals as goal

pub loop-item-preserved : goal.loop-item-preserved
loop-item-preserved c = run_more c.args.array.now c.loop-item.reach c.item_reach.result c.and-reach.result c.args.from c.loop-item.item c.and-reach.ensures.own c.and-reach.ensures.other c.loop-item.invariant c.item_reach.ensures
