use Rattle.dx_tags.proofs.Growth.{interned_named}
use Rattle.dx_demand.proofs.Terms.{interned_exact}
use Rattle.dx_demand_tests.proofs.linked.named.Goals as goal

pub returns-clause-exact : goal.returns-clause-exact
returns-clause-exact c = interned_exact c.intern.result c.args.tags.now c.intern.new.self c.args.t c.requires.exact c.requires.formed c.requires.whole c.intern.ensures.kept c.intern.ensures.err c.intern.ensures.distinct

pub returns-clause-named : goal.returns-clause-named
returns-clause-named c = interned_named c.intern.result c.args.tags.now c.intern.new.self c.args.t c.requires.exact.formed c.requires.formed c.intern.ensures.kept c.intern.ensures.named
