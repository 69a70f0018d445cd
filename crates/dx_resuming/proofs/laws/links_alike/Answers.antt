use Rattle.dx_resuming.proofs.LinkTerms as link
use Rattle.dx_resuming.proofs.laws.links_alike.Goals as goal

pub returns-clause-one : goal.returns-clause-one
returns-clause-one c = link.gets_alike

pub returns-clause-all : goal.returns-clause-all
returns-clause-all c = link.get_all_alike

pub returns-clause-ready : goal.returns-clause-ready
returns-clause-ready c = link.ready_alike

pub returns-clause-covered : goal.returns-clause-covered
returns-clause-covered c = link.covered_alike

pub returns-clause-all_covered : goal.returns-clause-all_covered
returns-clause-all_covered c = link.all_covered_alike
