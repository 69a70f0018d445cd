use Rattle.std.proofs.Common.{ap, ◌∙◌}
use Rattle.std.specs.Prelude.{nat_lt}
use Rattle.dx_base.proofs.NameCounts.{has_counted}
use Rattle.dx_base.proofs.names.Names.has.Goals as goal

pub returns : goal.returns
returns c = ap (nat_lt 0) c.count.ensures.times ∙ has_counted c.args.self.now c.args.name.now
