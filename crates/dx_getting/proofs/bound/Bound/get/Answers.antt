use Rattle.std.proofs.Common.{ap, None, Some}
use Rattle.dx_getting.specs.Terms.{Table}
use Rattle.dx_getting.proofs.BoundValues.{seen_value}
use Rattle.dx_getting.proofs.bound.Bound.get.Goals as goal

pub returns-in-Some : goal.returns-in-Some
returns-in-Some c = seen_value c.args.tag c.self.inside.table.entries c.args.self.now.pairs (Some c.in-Some.binding.now) (ap (λ (t : Table). t.pairs) c.self.view_is) c.in-Some.ensures.value

pub returns-in-None : goal.returns-in-None
returns-in-None c = seen_value c.args.tag c.self.inside.table.entries c.args.self.now.pairs None (ap (λ (t : Table). t.pairs) c.self.view_is) c.in-None.ensures.value
