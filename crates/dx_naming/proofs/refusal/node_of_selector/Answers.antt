use Rattle.std.proofs.Common.{◌≡◌, ◌∙◌, length, Some, sym, ap, arith}
use Rattle.std.specs.Prelude.{slice_get}
use Rattle.dx_graph.specs.declared.node.Node.{Node}
use Rattle.dx_graph.specs.Graph.{node_at}
use Rattle.dx_graph.specs.GraphView.{graph_of}
use Rattle.dx_tags.specs.Closed.{heads_of}
use Rattle.dx_getting.specs.Stands.{call_at}
use Rattle.dx_meaning.specs.Met.{first_place}
use Rattle.dx_meaning.specs.Picking.{selector_at}
use Rattle.dx_demand.specs.Halting.{selector_calls}
use Rattle.dx_demand.specs.Searching.{place_of}
use Rattle.dx_demand.proofs.Calls.{met_past, met_slot}
use Rattle.dx_demand.proofs.PortSteps.{nodes_of}
use Rattle.dx_demand.proofs.Taken.{slot, takes, takes_in}
use Rattle.dx_looking.specs.Setting.{nodes_in, sight_in}
use Rattle.dx_naming.proofs.Among.{stands_found, none_found, nothing_met}
use Rattle.dx_naming.proofs.refusal.node_of_selector.Goals as goal

pub call_under-requires-clause-input : goal.call_under-requires-clause-input
call_under-requires-clause-input c =
    let setup = c.args.setup.now in
    let nodes = nodes_in setup in
    let inputs = (node_at nodes c.args.n).inputs in
    let same : c.as_slice-inputs.result.now ≡ inputs = c.as_slice-inputs.ensures ∙ ap (λ (x : Node). x.inputs) c.node-node.ensures in
    let k = selector_at (node_at nodes c.args.n).what in
    let place : c.place_of_selector-place.result ≡ k = c.place_of_selector-place.ensures ∙ ap (λ (x : Node). selector_at x.what) c.node-node.ensures in
    let x = c.index-inputs-place.result in
    let at : slice_get inputs k ≡ Some x = slot c.as_slice-inputs.result.now inputs c.place_of_selector-place.result k x same place c.if-place-inputs.true c.index-inputs-place.is in
    takes_in nodes c.args.n c.requires.node x (takes nodes (nodes_of (graph_of setup.graph.now) setup.graph.now.lawful) c.args.n c.requires.node k x at)

pub call_under-requires-clause-valued : goal.call_under-requires-clause-valued
call_under-requires-clause-valued c =
    let nodes = nodes_in c.args.setup.now in
    let inputs = (node_at nodes c.args.n).inputs in
    let same : c.as_slice-inputs.result.now ≡ inputs = c.as_slice-inputs.ensures ∙ ap (λ (x : Node). x.inputs) c.node-node.ensures in
    let k = selector_at (node_at nodes c.args.n).what in
    let place : c.place_of_selector-place.result ≡ k = c.place_of_selector-place.ensures ∙ ap (λ (x : Node). selector_at x.what) c.node-node.ensures in
    let x = c.index-inputs-place.result in
    let at : slice_get inputs k ≡ Some x = slot c.as_slice-inputs.result.now inputs c.place_of_selector-place.result k x same place c.if-place-inputs.true c.index-inputs-place.is in
    c.requires.looking.met.selectors c.args.n c.requires.selects.0 x c.requires.selects.1 at

pub returns-in-Some-clause-within : goal.returns-in-Some-clause-within
returns-in-Some-clause-within c = c.in_ok-m.ensures.within c.in-Some.m c.in-Some.is

pub returns-in-Some-clause-names : goal.returns-in-Some-clause-names
returns-in-Some-clause-names c = λ is.
    let setup = c.args.setup.now in
    let nodes = nodes_in setup in
    let s = sight_in setup c.args.at.now in
    let inputs = (node_at nodes c.args.n).inputs in
    let same : c.as_slice-inputs.result.now ≡ inputs = c.as_slice-inputs.ensures ∙ ap (λ (x : Node). x.inputs) c.node-node.ensures in
    let k = selector_at (node_at nodes c.args.n).what in
    let place : c.place_of_selector-place.result ≡ k = c.place_of_selector-place.ensures ∙ ap (λ (x : Node). selector_at x.what) c.node-node.ensures in
    let x = c.index-inputs-place.result in
    let at : slice_get inputs k ≡ Some x = slot c.as_slice-inputs.result.now inputs c.place_of_selector-place.result k x same place c.if-place-inputs.true c.index-inputs-place.is in
    let call = call_at (heads_of c.args.at.now.tags) c.args.refusal.tag in
    stands_found nodes (selector_calls s nodes c.args.n) call c.in-Some.m
    (ap (place_of nodes) (sym c.in-Some.is) ∙ c.in_ok-m.ensures.first is ∙ ap (λ cs. first_place cs call) (sym (met_slot s nodes c.args.n k x at)))

pub returns-in-None-clause-names : goal.returns-in-None-clause-names
returns-in-None-clause-names c = λ is.
    let setup = c.args.setup.now in
    let nodes = nodes_in setup in
    let s = sight_in setup c.args.at.now in
    let inputs = (node_at nodes c.args.n).inputs in
    let same : c.as_slice-inputs.result.now ≡ inputs = c.as_slice-inputs.ensures ∙ ap (λ (x : Node). x.inputs) c.node-node.ensures in
    let k = selector_at (node_at nodes c.args.n).what in
    let place : c.place_of_selector-place.result ≡ k = c.place_of_selector-place.ensures ∙ ap (λ (x : Node). selector_at x.what) c.node-node.ensures in
    let x = c.index-inputs-place.result in
    let at : slice_get inputs k ≡ Some x = slot c.as_slice-inputs.result.now inputs c.place_of_selector-place.result k x same place c.if-place-inputs.true c.index-inputs-place.is in
    let call = call_at (heads_of c.args.at.now.tags) c.args.refusal.tag in
    none_found nodes (selector_calls s nodes c.args.n) call c.args.n
    (ap (place_of nodes) (sym c.in-None.is) ∙ c.in_ok-m.ensures.first is ∙ ap (λ cs. first_place cs call) (sym (met_slot s nodes c.args.n k x at)))

pub returns-else-place-inputs-clause-names : goal.returns-else-place-inputs-clause-names
returns-else-place-inputs-clause-names c = λ is.
    let setup = c.args.setup.now in
    let nodes = nodes_in setup in
    let s = sight_in setup c.args.at.now in
    let inputs = (node_at nodes c.args.n).inputs in
    let same : c.as_slice-inputs.result.now ≡ inputs = c.as_slice-inputs.ensures ∙ ap (λ (x : Node). x.inputs) c.node-node.ensures in
    let k = selector_at (node_at nodes c.args.n).what in
    let place : c.place_of_selector-place.result ≡ k = c.place_of_selector-place.ensures ∙ ap (λ (x : Node). selector_at x.what) c.node-node.ensures in
    let whole = ap length same in
    nothing_met nodes (selector_calls s nodes c.args.n) (call_at (heads_of c.args.at.now.tags) c.args.refusal.tag) c.args.n (met_past s nodes c.args.n k (omega (arith, whole, place, c.if-place-inputs.false)))
