use Rattle.dx_tags.proofs.Growth.{interned_goes_on, interned_named}
use Rattle.dx_demand.proofs.Growing.{always_on}
use Rattle.dx_demand.proofs.Terms.{interned_exact}
use Rattle.dx_demand.proofs.FormedTerms.{on_named}
use Rattle.dx_demand.proofs.step.name.Goals as goal

pub returns-clause-formed : goal.returns-clause-formed
returns-clause-formed c = interned_exact c.intern.result c.args.tags.now c.intern.new.self c.args.t c.requires.formed c.requires.within c.requires.whole c.intern.ensures.kept c.intern.ensures.err c.intern.ensures.distinct

pub returns-clause-goes_on : goal.returns-clause-goes_on
returns-clause-goes_on c = λ none. always_on c.intern.result c.args.tags.now c.intern.new.self (interned_goes_on c.intern.result c.args.tags.now c.intern.new.self c.args.t none c.intern.ensures.kept) c.intern.ensures.err

pub returns-clause-named : goal.returns-clause-named
returns-clause-named c = interned_named c.intern.result c.args.tags.now c.intern.new.self c.args.t c.requires.formed.formed c.requires.within c.intern.ensures.kept c.intern.ensures.named

pub returns-clause-terms : goal.returns-clause-terms
returns-clause-terms c = on_named c.intern.result c.args.tags.now c.intern.new.self c.args.t c.requires.formed.formed c.intern.ensures.formed c.requires.formed.distinct c.intern.ensures.distinct c.intern.ensures.kept c.intern.ensures.named
