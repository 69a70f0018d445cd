use Rattle.dx_links.specs.Holding.{holding_of}
use Rattle.dx_ending.proofs.CountLaws.{released}
use Rattle.dx_ending.proofs.in_place.release_old.Goals as goal

pub returns-in-Some-clause-bound : goal.returns-in-Some-clause-bound
returns-in-Some-clause-bound c =
    released c.args.links.now.links c.args.key.now (holding_of c.in-Some.held) c.args.bound.now c.release.new.self c.in-Some.ensures c.requires.bound c.release.ensures.from c.release.ensures.counts c.release.ensures.values c.release.ensures.once
