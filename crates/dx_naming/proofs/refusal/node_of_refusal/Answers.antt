use Rattle.std.proofs.Common.{◌≡◌, ◌∙◌, length, All, sym, ap, subst}
use Rattle.dx_graph.specs.declared.node.Node.{Node}
use Rattle.dx_graph.specs.Graph.{MayTake, node_at}
use Rattle.dx_tags.specs.Closed.{heads_of}
use Rattle.dx_getting.specs.Stands.{call_at}
use Rattle.dx_meaning.specs.Met.{all_met}
use Rattle.dx_demand.specs.Memo.{answers_of}
use Rattle.dx_demand.specs.Calling.{AreValued, node_met}
use Rattle.dx_demand.specs.Searching.{place_of}
use Rattle.dx_demanded.proofs.Places.{first_is_of_all}
use Rattle.dx_looking.specs.Setting.{nodes_in, sight_in}
use Rattle.dx_naming.proofs.Among.{first_among, stands_found, none_found}
use Rattle.dx_naming.proofs.Places.{inputs_taken}
use Rattle.dx_naming.proofs.refusal.node_of_refusal.Goals as goal

pub call_among-requires-clause-inputs : goal.call_among-requires-clause-inputs
call_among-requires-clause-inputs c =
    let setup = c.args.setup.now in
    let nodes = nodes_in setup in
    let same : c.as_slice.result.now ≡ (node_at nodes c.args.n).inputs = c.as_slice.ensures ∙ ap (λ (x : Node). x.inputs) c.node-node.ensures in
    subst (All (MayTake nodes (length nodes))) (sym same) (inputs_taken setup c.args.n c.requires.node)

pub call_among-requires-clause-valued : goal.call_among-requires-clause-valued
call_among-requires-clause-valued c =
    let nodes = nodes_in c.args.setup.now in
    let same : c.as_slice.result.now ≡ (node_at nodes c.args.n).inputs = c.as_slice.ensures ∙ ap (λ (x : Node). x.inputs) c.node-node.ensures in
    subst (λ is. AreValued (answers_of c.args.at.now.seen.memo) is (length is)) (sym same) c.requires.valued

pub returns-in-Some-clause-within : goal.returns-in-Some-clause-within
returns-in-Some-clause-within c = c.in_ok-m.ensures.within c.in-Some.m c.in-Some.is

pub returns-in-Some-clause-names : goal.returns-in-Some-clause-names
returns-in-Some-clause-names c = λ is.
    let setup = c.args.setup.now in
    let at = c.args.at.now in
    let nodes = nodes_in setup in
    let same : c.as_slice.result.now ≡ (node_at nodes c.args.n).inputs = c.as_slice.ensures ∙ ap (λ (x : Node). x.inputs) c.node-node.ensures in
    let each = node_met (sight_in setup at) nodes c.args.n in
    let call = call_at (heads_of at.tags) c.args.refusal.tag in
    stands_found nodes (all_met each) call c.in-Some.m (ap (place_of nodes) (sym c.in-Some.is) ∙ c.in_ok-m.ensures.first is ∙ ap (first_among setup at c.args.refusal.tag) same ∙ first_is_of_all each call)

pub returns-in-None-clause-names : goal.returns-in-None-clause-names
returns-in-None-clause-names c = λ is.
    let setup = c.args.setup.now in
    let at = c.args.at.now in
    let nodes = nodes_in setup in
    let same : c.as_slice.result.now ≡ (node_at nodes c.args.n).inputs = c.as_slice.ensures ∙ ap (λ (x : Node). x.inputs) c.node-node.ensures in
    let each = node_met (sight_in setup at) nodes c.args.n in
    let call = call_at (heads_of at.tags) c.args.refusal.tag in
    none_found nodes (all_met each) call c.args.n (ap (place_of nodes) (sym c.in-None.is) ∙ c.in_ok-m.ensures.first is ∙ ap (first_among setup at c.args.refusal.tag) same ∙ first_is_of_all each call)
