use Rattle.std.proofs.Common.{sym, subst}
use Rattle.dx_links.specs.LinkMap.{LinkMap}
use Rattle.dx_links.proofs.LinkLaws.{after_put}
use Rattle.dx_getting.specs.Bound.{IsBound}
use Rattle.dx_ending.proofs.CountLaws.{changed, few_released, come_set}
use Rattle.dx_ending.proofs.in_place.change_one.Goals as goal

pub hold_new-requires-clause-few : goal.hold_new-requires-clause-few
hold_new-requires-clause-few c = few_released c.args.links.now.links _ c.release_old.new.bound _ c.release_old.ensures.bound c.requires.room.few

pub returns-clause-bound : goal.returns-clause-bound
returns-clause-bound c =
    subst (λ (ls : LinkMap). IsBound ls c.hold_new.new.bound) (sym c.put.ensures.made)
    (changed c.args.links.now.links c.args.ready.change.key c.args.ready.change.held c.release_old.new.bound c.hold_new.new.bound c.requires.room.sorted c.release_old.ensures.bound
    (record { from = c.hold_new.ensures.from; counts = c.hold_new.ensures.counts; values = c.hold_new.ensures.values; counts_below = c.hold_new.ensures.counts_below; values_below = c.hold_new.ensures.values_below; once = c.hold_new.ensures.once }))

pub returns-clause-values : goal.returns-clause-values
returns-clause-values c =
    come_set c.args.ready.change c.args.bound.now.pairs c.release_old.new.bound c.hold_new.new.bound c.release_old.ensures.values c.hold_new.ensures.values c.hold_new.ensures.values_below

pub returns-clause-sorted : goal.returns-clause-sorted
returns-clause-sorted c =
    after_put c.args.links.now.links c.put.new.self.links c.args.ready.change.key c.args.ready.change.held c.requires.room.sorted c.put.ensures.made
