use Rattle.dx_links.specs.Holding.{holding_of}
use Rattle.dx_demand.proofs.pick.held_or.Goals as goal

pub returns-in-Some-clause-fits : goal.returns-in-Some-clause-fits
returns-in-Some-clause-fits c = λ terms h. h c.args.k.now (holding_of c.in-Some.held) c.in-Some.ensures
