use Rattle.std.proofs.Common.{ap, None}
use Rattle.dx_tags.specs.contracts.term.ValueTagPartialEq.TheImpl as tags
use Rattle.dx_getting.specs.Terms.{Table}
use Rattle.dx_getting.proofs.BoundValues.{once_each, changed_value, changed_count}
use Rattle.dx_getting.proofs.bound.Bound.forget.Goals as goal

pub returns-clause-values : goal.returns-clause-values
returns-clause-values c = λ t. changed_value (tags.ghosts.eq t) c.self.inside.table.entries c.swap_remove.new.self.entries None (tags.ghosts.eq c.args.tag t) _ (ap (λ (t : Table). t.pairs) c.self.view_is) (c.swap_remove.ensures.updates.0 t)

pub returns-clause-counts : goal.returns-clause-counts
returns-clause-counts c = λ t. changed_count t c.self.inside.table.entries c.swap_remove.new.self.entries None (tags.ghosts.eq c.args.tag t) _ (ap (λ (t : Table). t.counts) c.self.view_is) (c.swap_remove.ensures.updates.0 t)

pub returns-clause-once : goal.returns-clause-once
returns-clause-once c = once_each c.swap_remove.new.self.entries c.swap_remove.ensures.unique
