use Rattle.std.proofs.Common.{sym, subst}
use Rattle.dx_links.specs.LinkMap.{LinkMap}
use Rattle.dx_getting.specs.Bound.{IsBound}
use Rattle.dx_ending.proofs.CountLaws.{first_bound}
use Rattle.dx_ending_tests.proofs.linked.nothing.Goals as goal

pub returns : goal.returns
returns c = subst (λ (ls : LinkMap). IsBound ls c.new-2.result) (sym c.new.ensures.links) (first_bound c.new-2.result c.new-2.ensures.pairs c.new-2.ensures.counts)
