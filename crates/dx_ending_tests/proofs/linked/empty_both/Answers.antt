use Rattle.std.proofs.Common.{sym, ap, subst, length, ◌∙◌}
use Rattle.dx_links.specs.LinkMap.{LinkMap, after}
use Rattle.dx_getting.specs.Bound.{IsBound}
use Rattle.dx_getting.proofs.EmptyLaws.{all_length}
use Rattle.dx_ending.proofs.CountLaws.{emptied_bound}
use Rattle.dx_ending_tests.proofs.linked.empty_both.Goals as goal

pub returns : goal.returns
returns c =
    let links = after c.reserve_emptying.new.self.links c.in_ok-changes.changes in
    let count = c.empty-2.ensures.from ∙ c.len-2.ensures ∙ ap length c.empty.ensures.links ∙ all_length links in
    record { bound = subst (λ (ls : LinkMap). IsBound ls c.empty-2.new.self) (sym c.empty.ensures.links) (emptied_bound links c.empty-2.new.self count c.empty-2.ensures.pairs c.empty-2.ensures.counts) }
