use Rattle.dx_demand_tests.proofs.Linking.{linked_grows}
use Rattle.dx_demand_tests.proofs.looking.look_once.Goals as goal

pub returns-clause-linked : goal.returns-clause-linked
returns-clause-linked c = linked_grows c.args.tags.now c.resolve.new.tags c.args.before.now.links.links (let g = c.in_ok-resolved.ensures.goes_on in (g.0, g.1)) c.resolve.ensures.formed c.requires.linked
