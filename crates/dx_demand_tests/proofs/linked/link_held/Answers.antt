use Rattle.dx_demand_tests.proofs.Linking.{linked_grows}
use Rattle.dx_demand_tests.proofs.linked.link_held.Goals as goal

pub link-requires-clause-linked : goal.link-requires-clause-linked
link-requires-clause-linked c = linked_grows c.args.tags.now c.held_term.new.tags c.args.links.now.links c.in_ok-tag.ensures.has_more c.held_term.ensures.exact c.requires
