use Rattle.std.proofs.Common.{ap, sym, None, Some}
use Rattle.dx_getting.specs.Terms.{Table}
use Rattle.dx_getting.proofs.BoundValues.{seen_count}
use Rattle.dx_getting.proofs.bound.Bound.count.Goals as goal

pub returns-in-Some : goal.returns-in-Some
returns-in-Some c = sym (seen_count c.args.tag c.self.inside.table.entries c.args.self.now.counts (Some c.in-Some.binding.now) (ap (λ (t : Table). t.counts) c.self.view_is) c.in-Some.ensures.value)

pub returns-in-None : goal.returns-in-None
returns-in-None c = sym (seen_count c.args.tag c.self.inside.table.entries c.args.self.now.counts None (ap (λ (t : Table). t.counts) c.self.view_is) c.in-None.ensures.value)
