use Rattle.dx_compute.proofs.Keeping.{ends_run}
use Rattle.dx_compute.proofs.ranges.ends_reach.Goals as goal

pub returns : goal.returns
returns c = ends_run c.args.array.now c.and.result c.filled.result c.args.from c.args.last c.requires.regular
    (λ place h. c.and.ensures.own _ (c.item_reach.ensures place h)) (λ place h. c.and.ensures.other _ (c.item_reach-2.ensures place h)) c.filled.ensures
