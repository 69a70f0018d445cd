use Rattle.std.proofs.Common.{◌≡◌, ap, ◌∙◌, ◌+◌, cond, Some, arith}
use Rattle.dx_tags.specs.contracts.term.ValueTagPartialEq.TheImpl as tags
use Rattle.dx_getting.specs.Terms.{Table, count_in}
use Rattle.dx_getting.proofs.BoundValues.{once_each, changed_value, changed_count}
use Rattle.dx_getting.proofs.bound.Bound.hold.Goals as goal

pub returns-clause-values : goal.returns-clause-values
returns-clause-values c = λ t. changed_value (tags.ghosts.eq t) c.self.inside.table.entries c.insert.new.self.entries (Some _) (tags.ghosts.eq c.args.tag t) _ (ap (λ (t : Table). t.pairs) c.self.view_is) (c.in-Ok.ensures.updates.0 t)

pub returns-clause-counts : goal.returns-clause-counts
returns-clause-counts c =
    let read = c.count-links.ensures in
    let more : c.count-links.result + 1 ≡ 1 + count_in c.args.tag c.args.self.now.counts = omega (arith, read) in
    λ t. changed_count t c.self.inside.table.entries c.insert.new.self.entries (Some _) (tags.ghosts.eq c.args.tag t) _ (ap (λ (t : Table). t.counts) c.self.view_is) (c.in-Ok.ensures.updates.0 t)
    ∙ ap (λ n. cond (tags.ghosts.eq c.args.tag t) n (count_in t c.args.self.now.counts)) more

pub returns-clause-once : goal.returns-clause-once
returns-clause-once c = once_each c.insert.new.self.entries c.insert.ensures.unique
