use Rattle.std.proofs.Common.{◌≡◌, ◌<◌, ◌∙◌, length, Some, refl, sym, ap, subst, arith}
use Rattle.std.specs.Prelude.{slice_get}
use Rattle.dx_graph.specs.declared.node.Node.{Node}
use Rattle.dx_graph.specs.Graph.{node_at}
use Rattle.dx_graph.specs.GraphView.{graph_of}
use Rattle.dx_meaning.specs.Scan.{Forms}
use Rattle.dx_demand.specs.Memo.{answers_of}
use Rattle.dx_demand.specs.Steps.{KnownFits, KnownRight}
use Rattle.dx_demand.proofs.Ports.{chosen_is, chosen_past}
use Rattle.dx_demand.proofs.Leading.{chosen_leads}
use Rattle.dx_demand.proofs.PortSteps.{nodes_of, more_itself}
use Rattle.dx_demand.proofs.Taken.{slot, takes, takes_in, awaited}
use Rattle.dx_meaning.specs.Scan.{null_term}
use Rattle.dx_demand.specs.Forming.{KnownForms, formings, input_forms, port_forms}
use Rattle.dx_demand.proofs.FormedTerms.{value_formed}
use Rattle.dx_demand.proofs.FormedPorts.{chosen_formed, chosen_null, chosen_awaits, reaches_grow}
use Rattle.dx_demand.proofs.FormedSteps.{formation_of, toward_same}
use Rattle.dx_demand.specs.Calling.{KnownValued}
use Rattle.dx_demand.proofs.Calls.{chosen_met, alone_met, met_past}
use Rattle.dx_demand.proofs.step.chosen.Goals as goal

pub known_of-requires-clause-input : goal.known_of-requires-clause-input
known_of-requires-clause-input c =
    let nodes = (graph_of c.args.g.now).nodes in
    let lawful = nodes_of (graph_of c.args.g.now) c.args.g.now.lawful in
    let lt : c.args.port.node < length nodes = c.requires.port.0 in
    let inputs = (node_at nodes c.args.port.node).inputs in
    let same : c.as_slice-inputs.result.now ≡ inputs = c.as_slice-inputs.ensures ∙ ap (λ (x : Node). x.inputs) c.node.ensures in
    let x = c.index-inputs-k.result in
    let at : slice_get inputs c.args.k ≡ Some x = slot c.as_slice-inputs.result.now inputs c.args.k c.args.k x same refl c.if-k-inputs.true c.index-inputs-k.is in
    takes_in nodes c.args.port.node lt x (takes nodes lawful c.args.port.node lt c.args.k x at)

pub returns-in-Settled-clause-right : goal.returns-in-Settled-clause-right
returns-in-Settled-clause-right c =
    let nodes = (graph_of c.args.g.now).nodes in
    let lawful = nodes_of (graph_of c.args.g.now) c.args.g.now.lawful in
    let lt : c.args.port.node < length nodes = c.requires.port.0 in
    let inputs = (node_at nodes c.args.port.node).inputs in
    let same : c.as_slice-inputs.result.now ≡ inputs = c.as_slice-inputs.ensures ∙ ap (λ (x : Node). x.inputs) c.node.ensures in
    let x = c.index-inputs-k.result in
    let at : slice_get inputs c.args.k ≡ Some x = slot c.as_slice-inputs.result.now inputs c.args.k c.args.k x same refl c.if-k-inputs.true c.index-inputs-k.is in
    λ s m h. chosen_is s nodes c.args.port c.args.k (h s (more_itself s)).0 x at ∙ subst (KnownRight s nodes c.known_of.new.tags x) c.in-Settled.is (c.in_ok-settled.ensures.right s m)

pub returns-in-Open-clause-fits : goal.returns-in-Open-clause-fits
returns-in-Open-clause-fits c =
    let nodes = (graph_of c.args.g.now).nodes in
    let lawful = nodes_of (graph_of c.args.g.now) c.args.g.now.lawful in
    let lt : c.args.port.node < length nodes = c.requires.port.0 in
    let inputs = (node_at nodes c.args.port.node).inputs in
    let same : c.as_slice-inputs.result.now ≡ inputs = c.as_slice-inputs.ensures ∙ ap (λ (x : Node). x.inputs) c.node.ensures in
    let x = c.index-inputs-k.result in
    let at : slice_get inputs c.args.k ≡ Some x = slot c.as_slice-inputs.result.now inputs c.args.k c.args.k x same refl c.if-k-inputs.true c.index-inputs-k.is in
    let open_ = subst (KnownFits nodes c.known_of.new.tags (answers_of c.args.memo.now) x) c.in-Open.is c.in_ok-settled.ensures.fits in
    let there = awaited nodes c.args.port.node lt x c.in-Open.awaited open_.0 (takes nodes lawful c.args.port.node lt c.args.k x at) in
    λ given. (there.0, there.1, open_.1)

pub returns-in-Open-clause-right : goal.returns-in-Open-clause-right
returns-in-Open-clause-right c =
    let nodes = (graph_of c.args.g.now).nodes in
    let lawful = nodes_of (graph_of c.args.g.now) c.args.g.now.lawful in
    let lt : c.args.port.node < length nodes = c.requires.port.0 in
    let inputs = (node_at nodes c.args.port.node).inputs in
    let same : c.as_slice-inputs.result.now ≡ inputs = c.as_slice-inputs.ensures ∙ ap (λ (x : Node). x.inputs) c.node.ensures in
    let x = c.index-inputs-k.result in
    let at : slice_get inputs c.args.k ≡ Some x = slot c.as_slice-inputs.result.now inputs c.args.k c.args.k x same refl c.if-k-inputs.true c.index-inputs-k.is in
    let open_ = subst (KnownFits nodes c.known_of.new.tags (answers_of c.args.memo.now) x) c.in-Open.is c.in_ok-settled.ensures.fits in
    λ s m h. chosen_leads s nodes c.args.port c.args.k h c.in-Open.awaited (at ∙ ap Some open_.0)

pub returns-in_ok-t-clause-right : goal.returns-in_ok-t-clause-right
returns-in_ok-t-clause-right c =
    let nodes = (graph_of c.args.g.now).nodes in
    let lawful = nodes_of (graph_of c.args.g.now) c.args.g.now.lawful in
    let lt : c.args.port.node < length nodes = c.requires.port.0 in
    let inputs = (node_at nodes c.args.port.node).inputs in
    let same : c.as_slice-inputs.result.now ≡ inputs = c.as_slice-inputs.ensures ∙ ap (λ (x : Node). x.inputs) c.node.ensures in
    let whole = ap length same in
    λ s m h. chosen_past s nodes c.args.port c.args.k (h s (more_itself s)).0 (omega (arith, whole, c.if-k-inputs.false)) ∙ sym (ap Forms c.in_ok-t.ensures.named)

pub returns-in-Settled-clause-forms : goal.returns-in-Settled-clause-forms
returns-in-Settled-clause-forms c = λ s m h.
    let nodes = (graph_of c.args.g.now).nodes in
    let lawful = nodes_of (graph_of c.args.g.now) c.args.g.now.lawful in
    let lt : c.args.port.node < length nodes = c.requires.port.0 in
    let inputs = (node_at nodes c.args.port.node).inputs in
    let same : c.as_slice-inputs.result.now ≡ inputs = c.as_slice-inputs.ensures ∙ ap (λ (x : Node). x.inputs) c.node.ensures in
    let x = c.index-inputs-k.result in
    let at : slice_get inputs c.args.k ≡ Some x = slot c.as_slice-inputs.result.now inputs c.args.k c.args.k x same refl c.if-k-inputs.true c.index-inputs-k.is in
    let old = c.args.tags.now in
    let new = c.known_of.new.tags in
    let was = formings nodes old c.args.memo.now in
    let now = formings nodes new c.args.memo.now in
    let k = subst (KnownForms (input_forms s nodes x) was now) c.in-Settled.is (c.in_ok-settled.ensures.forms s m) in
    let r = chosen_formed s nodes c.args.port c.args.k was now h x at k in
    (formation_of s nodes old new c.in_ok-settled.ensures.goes_on c.args.memo.now c.args.port 0 r.0 m tt, r.1)

pub returns-in-Open-clause-forms : goal.returns-in-Open-clause-forms
returns-in-Open-clause-forms c = λ s m h.
    let nodes = (graph_of c.args.g.now).nodes in
    let lawful = nodes_of (graph_of c.args.g.now) c.args.g.now.lawful in
    let lt : c.args.port.node < length nodes = c.requires.port.0 in
    let inputs = (node_at nodes c.args.port.node).inputs in
    let same : c.as_slice-inputs.result.now ≡ inputs = c.as_slice-inputs.ensures ∙ ap (λ (x : Node). x.inputs) c.node.ensures in
    let x = c.index-inputs-k.result in
    let at : slice_get inputs c.args.k ≡ Some x = slot c.as_slice-inputs.result.now inputs c.args.k c.args.k x same refl c.if-k-inputs.true c.index-inputs-k.is in
    let open_ = subst (KnownFits nodes c.known_of.new.tags (answers_of c.args.memo.now) x) c.in-Open.is c.in_ok-settled.ensures.fits in
    let old = c.args.tags.now in
    let new = c.known_of.new.tags in
    let was = formings nodes old c.args.memo.now in
    let now = formings nodes new c.args.memo.now in
    let k = subst (KnownForms (input_forms s nodes x) was now) c.in-Open.is (c.in_ok-settled.ensures.forms s m) in
    let t = toward_same (port_forms s nodes c.args.port) was now k in (
      formation_of s nodes old new c.in_ok-settled.ensures.goes_on c.args.memo.now c.args.port 0 t m tt,
      reaches_grow s nodes was now t.grows c.args.port c.in-Open.awaited (chosen_awaits s nodes c.args.port c.args.k was h c.in-Open.awaited (at ∙ ap Some open_.0)),
    )

pub returns-in_ok-t-clause-forms : goal.returns-in_ok-t-clause-forms
returns-in_ok-t-clause-forms c = λ s m h.
    let nodes = (graph_of c.args.g.now).nodes in
    let lawful = nodes_of (graph_of c.args.g.now) c.args.g.now.lawful in
    let lt : c.args.port.node < length nodes = c.requires.port.0 in
    let inputs = (node_at nodes c.args.port.node).inputs in
    let same : c.as_slice-inputs.result.now ≡ inputs = c.as_slice-inputs.ensures ∙ ap (λ (x : Node). x.inputs) c.node.ensures in
    let whole = ap length same in
    let old = c.args.tags.now in
    let new = c.constant_tag.new.tags in
    let was = formings nodes old c.args.memo.now in
    let now = formings nodes new c.args.memo.now in
    let e = value_formed nodes old new c.in_ok-t.ensures.goes_on c.args.memo.now m.calls null_term c.in_ok-t.ensures.terms in
    let r = chosen_null s nodes c.args.port c.args.k was now h (omega (arith, whole, c.if-k-inputs.false)) e in
    (formation_of s nodes old new c.in_ok-t.ensures.goes_on c.args.memo.now c.args.port 0 r.0 m tt, r.1)

pub returns-in-Settled-clause-met : goal.returns-in-Settled-clause-met
returns-in-Settled-clause-met c = λ s no h.
    let nodes = (graph_of c.args.g.now).nodes in
    let inputs = (node_at nodes c.args.port.node).inputs in
    let same : c.as_slice-inputs.result.now ≡ inputs = c.as_slice-inputs.ensures ∙ ap (λ (x : Node). x.inputs) c.node.ensures in
    let x = c.index-inputs-k.result in
    let at : slice_get inputs c.args.k ≡ Some x = slot c.as_slice-inputs.result.now inputs c.args.k c.args.k x same refl c.if-k-inputs.true c.index-inputs-k.is in
    let answers = answers_of c.args.memo.now in
    let whole = ap length same in
    chosen_met s nodes answers c.args.port c.args.k x c.in-Settled.settled no h (omega (arith, whole, c.if-k-inputs.true)) at (subst (KnownValued answers x) c.in-Settled.is c.in_ok-settled.ensures.valued)

pub returns-in_ok-t-clause-met : goal.returns-in_ok-t-clause-met
returns-in_ok-t-clause-met c = λ s no h.
    let nodes = (graph_of c.args.g.now).nodes in
    let inputs = (node_at nodes c.args.port.node).inputs in
    let same : c.as_slice-inputs.result.now ≡ inputs = c.as_slice-inputs.ensures ∙ ap (λ (x : Node). x.inputs) c.node.ensures in
    let whole = ap length same in
    alone_met s nodes (answers_of c.args.memo.now) c.args.port c.in_ok-t.t no (h ∙ met_past s nodes c.args.port.node c.args.k (omega (arith, whole, c.if-k-inputs.false)))
