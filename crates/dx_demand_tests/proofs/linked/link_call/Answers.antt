use Rattle.dx_demand_tests.proofs.Linking.{linked_grows}
use Rattle.dx_demand_tests.proofs.linked.link_call.Goals as goal

pub link-requires-clause-linked : goal.link-requires-clause-linked
link-requires-clause-linked c =
    let links = c.args.links.now.links in
    let one = linked_grows c.args.tags.now c.held_term.new.tags links c.in_ok-argument.ensures.has_more c.held_term.ensures.exact c.requires in
    linked_grows c.held_term.new.tags c.call_term.new.tags links c.in_ok-tag.ensures.has_more c.call_term.ensures.exact one
