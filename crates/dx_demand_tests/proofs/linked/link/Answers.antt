use Rattle.dx_demand.proofs.Growing.{on_ok_then}
use Rattle.dx_demand_tests.proofs.Linking.{link_made}
use Rattle.dx_demand_tests.proofs.linked.link.Goals as goal

pub returns : goal.returns
returns c =
    on_ok_then c.put.result c.put.ensures
    (λ e. link_made c.args.tags.now c.args.links.now.links c.put.new.links.links c.new-changes.result c.push.new.self c.args.key c.in_ok-held.held c.args.tag c.requires.linked c.requires.value c.in_ok-held.ensures c.new-changes.ensures c.in_ok-push.ensures.ok e)
