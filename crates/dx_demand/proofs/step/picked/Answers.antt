use Rattle.std.proofs.Common.{◌≡◌, ◌∙◌, sym, ap}
use Rattle.dx_ast.specs.declared.constants.Const.TheVariants as const
use Rattle.dx_graph.specs.Graph.{node_at}
use Rattle.dx_graph.specs.GraphView.{graph_of}
use Rattle.dx_tags.specs.Closed.{ConstantTerm, heads_of, value_term}
use Rattle.dx_demand.specs.Given.{value_behind}
use Rattle.dx_demand.specs.Picked.{shown_pick}
use Rattle.dx_meaning.specs.Scan.{Forms, picked_scanned}
use Rattle.dx_demand.specs.Memo.{node_scans}
use Rattle.dx_demand.specs.declared.pick.Pick.{Pick}
use Rattle.dx_demand.proofs.PortSteps.{more_itself}
use Rattle.dx_demand.specs.Halting.{node_halted}
use Rattle.dx_demand.proofs.Picks.{code_pick}
use Rattle.dx_demand.proofs.Leading.{code_halted}
use Rattle.std.proofs.Common.{refl, [], ◌∷◌, ◌++◌, sym}
use Rattle.dx_ast.specs.declared.constants.Const.{Const}
use Rattle.dx_ast.specs.declared.constants.Const.TheVariants as const
use Rattle.dx_meaning.specs.Scan.{null_term}
use Rattle.dx_meaning.specs.Picking.{PickThis, PickInput, PickOff, PickFault, pick}
use Rattle.dx_meaning.specs.Forming.{FormsValue, null_forms, with_term, picked_forms}
use Rattle.dx_tags.proofs.Growth.{goes_on_same}
use Rattle.dx_demand.specs.Forming.{formings, named_terms, node_forms, forms_with, pick_forms, pick_part}
use Rattle.dx_demand.proofs.FormedTerms.{value_formed}
use Rattle.dx_demand.proofs.FormedPorts.{picked_formed}
use Rattle.dx_demand.proofs.FormedSteps.{formation_of}
use Rattle.dx_meaning.specs.Met.{picked_met}
use Rattle.dx_demand.specs.Memo.{answers_of}
use Rattle.dx_demand.specs.Calling.{node_met}
use Rattle.dx_demand.proofs.Calls.{code_met, alone_met}
use Rattle.dx_demand.proofs.step.picked.Goals as goal

pub returns-in_ok-t-in-Null-clause-right : goal.returns-in_ok-t-in-Null-clause-right
returns-in_ok-t-in-Null-clause-right c = λ s holds m h.
    let nodes = (graph_of c.args.g.now).nodes in
    let term = value_term (heads_of c.constant_tag.new.tags) in
    let place = (node_at nodes c.args.port.node).place in
    let found = code_pick nodes c.args.links.now.links c.constant_tag.new.tags s holds c.args.port (value_behind c.args.v) c.in_ok-pick_of.field-0 (c.in_ok-pick_of.ensures.right term) (λ s' more. (h s' more).0) in
    found s (more_itself s) ∙ ap (λ (x : Pick). picked_scanned place (node_scans s nodes c.args.port.node) (shown_pick term x)) c.in-Null.is ∙ sym (ap Forms c.in_ok-t-in-Null.ensures.named)

pub returns-in_ok-t-in-Text-clause-right : goal.returns-in_ok-t-in-Text-clause-right
returns-in_ok-t-in-Text-clause-right c = λ s holds m h.
    let nodes = (graph_of c.args.g.now).nodes in
    let term = value_term (heads_of c.constant_tag-in-Text.new.tags) in
    let place = (node_at nodes c.args.port.node).place in
    let found = code_pick nodes c.args.links.now.links c.constant_tag-in-Text.new.tags s holds c.args.port (value_behind c.args.v) c.in_ok-pick_of.field-0 (c.in_ok-pick_of.ensures.right term) (λ s' more. (h s' more).0) in
    found s (more_itself s) ∙ ap (λ (x : Pick). picked_scanned place (node_scans s nodes c.args.port.node) (shown_pick term x)) c.in-Text.is ∙ sym (ap Forms (c.in_ok-t-in-Text.ensures.named ∙ ap ConstantTerm c.in_ok-text_constant-in-Text.ensures.text))

pub returns-in-Held-clause-right : goal.returns-in-Held-clause-right
returns-in-Held-clause-right c = λ s holds m h.
    let nodes = (graph_of c.args.g.now).nodes in
    let term = value_term (heads_of c.args.tags.now) in
    let place = (node_at nodes c.args.port.node).place in
    let found = code_pick nodes c.args.links.now.links c.args.tags.now s holds c.args.port (value_behind c.args.v) c.in_ok-pick_of.field-0 (c.in_ok-pick_of.ensures.right term) (λ s' more. (h s' more).0) in
    found s (more_itself s) ∙ ap (λ (x : Pick). picked_scanned place (node_scans s nodes c.args.port.node) (shown_pick term x)) c.in-Held.is

pub returns-in-Off-clause-right : goal.returns-in-Off-clause-right
returns-in-Off-clause-right c = λ s holds m h.
    let nodes = (graph_of c.args.g.now).nodes in
    let term = value_term (heads_of c.args.tags.now) in
    let place = (node_at nodes c.args.port.node).place in
    let found = code_pick nodes c.args.links.now.links c.args.tags.now s holds c.args.port (value_behind c.args.v) c.in_ok-pick_of.field-0 (c.in_ok-pick_of.ensures.right term) (λ s' more. (h s' more).0) in
    found s (more_itself s) ∙ ap (λ (x : Pick). picked_scanned place (node_scans s nodes c.args.port.node) (shown_pick term x)) c.in-Off.is

pub returns-in-Fault-clause-right : goal.returns-in-Fault-clause-right
returns-in-Fault-clause-right c = λ s holds m h.
    let nodes = (graph_of c.args.g.now).nodes in
    let term = value_term (heads_of c.args.tags.now) in
    let place = (node_at nodes c.args.port.node).place in
    let found = code_pick nodes c.args.links.now.links c.args.tags.now s holds c.args.port (value_behind c.args.v) c.in_ok-pick_of.field-0 (c.in_ok-pick_of.ensures.right term) (λ s' more. (h s' more).0) in
    found s (more_itself s) ∙ ap (λ (x : Pick). picked_scanned place (node_scans s nodes c.args.port.node) (shown_pick term x)) c.in-Fault.is

pub returns-in-Input-clause-right : goal.returns-in-Input-clause-right
returns-in-Input-clause-right c = λ s holds m h.
    let nodes = (graph_of c.args.g.now).nodes in
    let term = value_term (heads_of c.chosen.new.tags) in
    let place = (node_at nodes c.args.port.node).place in
    let found = code_pick nodes c.args.links.now.links c.chosen.new.tags s holds c.args.port (value_behind c.args.v) c.in_ok-pick_of.field-0 (c.in_ok-pick_of.ensures.right term) (λ s' more. (h s' more).0) in
    let halted = code_halted nodes c.args.links.now.links c.chosen.new.tags s holds c.args.port (value_behind c.args.v) c.in_ok-pick_of.field-0 (c.in_ok-pick_of.ensures.right term) h in
    c.chosen.ensures.right s m (λ s' more. (
      found s' more ∙ ap (λ (x : Pick). picked_scanned place (node_scans s' nodes c.args.port.node) (shown_pick term x)) c.in-Input.is,
      halted s' more ∙ ap (λ (x : Pick). picked_met (node_halted s' nodes c.args.port.node) (shown_pick term x)) c.in-Input.is,
    ))

pub returns-in_ok-t-in-Null-clause-forms : goal.returns-in_ok-t-in-Null-clause-forms
returns-in_ok-t-in-Null-clause-forms c = λ s m h.
    let nodes = (graph_of c.args.g.now).nodes in
    let old = c.args.tags.now in
    let new = c.constant_tag.new.tags in
    let memo = c.args.memo.now in
    let was = formings nodes old memo in
    let now = formings nodes new memo in
    let what = (node_at nodes c.args.port.node).what in
    let place = (node_at nodes c.args.port.node).place in
    let chosen = pick (forms_with c.args.links.now.links) what place c.args.port.result (value_behind c.args.v) in
    let is : chosen ≡ PickThis null_forms = sym c.in_ok-pick_of.ensures.forms ∙ ap pick_forms c.in-Null.is in
    let r = picked_formed s nodes c.args.port (pick_part nodes c.args.port chosen) was now h null_forms (ap (picked_forms (node_forms s nodes c.args.port.node)) is) (value_formed nodes old new c.in_ok-t-in-Null.ensures.goes_on memo m.calls null_term c.in_ok-t-in-Null.ensures.terms) in
    (formation_of s nodes old new c.in_ok-t-in-Null.ensures.goes_on memo c.args.port 0 r.0 m tt, r.1)

pub returns-in_ok-t-in-Text-clause-forms : goal.returns-in_ok-t-in-Text-clause-forms
returns-in_ok-t-in-Text-clause-forms c = λ s m h.
    let nodes = (graph_of c.args.g.now).nodes in
    let old = c.args.tags.now in
    let new = c.constant_tag-in-Text.new.tags in
    let memo = c.args.memo.now in
    let was = formings nodes old memo in
    let now = formings nodes new memo in
    let what = (node_at nodes c.args.port.node).what in
    let place = (node_at nodes c.args.port.node).place in
    let chosen = pick (forms_with c.args.links.now.links) what place c.args.port.result (value_behind c.args.v) in
    let is : chosen ≡ PickThis (FormsValue (ConstantTerm (const.Text c.in-Text.name)) ∷ []) = sym c.in_ok-pick_of.ensures.forms ∙ ap pick_forms c.in-Text.is in
    let r = picked_formed s nodes c.args.port (pick_part nodes c.args.port chosen) was now h (FormsValue (ConstantTerm (const.Text c.in-Text.name)) ∷ []) (ap (picked_forms (node_forms s nodes c.args.port.node)) is) (value_formed nodes old new c.in_ok-t-in-Text.ensures.goes_on memo m.calls (ConstantTerm (const.Text c.in-Text.name)) (c.in_ok-t-in-Text.ensures.terms ∙ ap (λ (x : Const). with_term (ConstantTerm x) (named_terms old)) c.in_ok-text_constant-in-Text.ensures.text)) in
    (formation_of s nodes old new c.in_ok-t-in-Text.ensures.goes_on memo c.args.port 0 r.0 m tt, r.1)

pub returns-in-Held-clause-forms : goal.returns-in-Held-clause-forms
returns-in-Held-clause-forms c = λ s m h.
    let nodes = (graph_of c.args.g.now).nodes in
    let old = c.args.tags.now in
    let new = c.args.tags.now in
    let memo = c.args.memo.now in
    let was = formings nodes old memo in
    let now = formings nodes new memo in
    let what = (node_at nodes c.args.port.node).what in
    let place = (node_at nodes c.args.port.node).place in
    let chosen = pick (forms_with c.args.links.now.links) what place c.args.port.result (value_behind c.args.v) in
    let is : chosen ≡ PickThis [] = sym c.in_ok-pick_of.ensures.forms ∙ ap pick_forms c.in-Held.is in
    let r = picked_formed s nodes c.args.port (pick_part nodes c.args.port chosen) was now h [] (ap (picked_forms (node_forms s nodes c.args.port.node)) is) refl in
    (formation_of s nodes old new (goes_on_same old) memo c.args.port 0 r.0 m tt, r.1)

pub returns-in-Off-clause-forms : goal.returns-in-Off-clause-forms
returns-in-Off-clause-forms c = λ s m h.
    let nodes = (graph_of c.args.g.now).nodes in
    let old = c.args.tags.now in
    let new = c.args.tags.now in
    let memo = c.args.memo.now in
    let was = formings nodes old memo in
    let now = formings nodes new memo in
    let what = (node_at nodes c.args.port.node).what in
    let place = (node_at nodes c.args.port.node).place in
    let chosen = pick (forms_with c.args.links.now.links) what place c.args.port.result (value_behind c.args.v) in
    let is : chosen ≡ PickOff = sym c.in_ok-pick_of.ensures.forms ∙ ap pick_forms c.in-Off.is in
    let r = picked_formed s nodes c.args.port (pick_part nodes c.args.port chosen) was now h [] (ap (picked_forms (node_forms s nodes c.args.port.node)) is) refl in
    (formation_of s nodes old new (goes_on_same old) memo c.args.port 0 r.0 m tt, r.1)

pub returns-in-Fault-clause-forms : goal.returns-in-Fault-clause-forms
returns-in-Fault-clause-forms c = λ s m h.
    let nodes = (graph_of c.args.g.now).nodes in
    let old = c.args.tags.now in
    let new = c.args.tags.now in
    let memo = c.args.memo.now in
    let was = formings nodes old memo in
    let now = formings nodes new memo in
    let what = (node_at nodes c.args.port.node).what in
    let place = (node_at nodes c.args.port.node).place in
    let chosen = pick (forms_with c.args.links.now.links) what place c.args.port.result (value_behind c.args.v) in
    let is : chosen ≡ PickFault = sym c.in_ok-pick_of.ensures.forms ∙ ap pick_forms c.in-Fault.is in
    let r = picked_formed s nodes c.args.port (pick_part nodes c.args.port chosen) was now h [] (ap (picked_forms (node_forms s nodes c.args.port.node)) is) refl in
    (formation_of s nodes old new (goes_on_same old) memo c.args.port 0 r.0 m tt, r.1)

pub returns-in-Input-clause-forms : goal.returns-in-Input-clause-forms
returns-in-Input-clause-forms c = λ s m h.
    let nodes = (graph_of c.args.g.now).nodes in
    let what = (node_at nodes c.args.port.node).what in
    let place = (node_at nodes c.args.port.node).place in
    let chosen = pick (forms_with c.args.links.now.links) what place c.args.port.result (value_behind c.args.v) in
    let is : chosen ≡ PickInput c.in-Input.k = sym c.in_ok-pick_of.ensures.forms ∙ ap pick_forms c.in-Input.is in
    c.chosen.ensures.forms s m (record { front = h.front; there = h.there; split = λ s' more. h.split s' more ∙ ap (λ x. h.front ++ picked_forms (node_forms s' nodes c.args.port.node) x) is })

pub returns-in_ok-t-in-Null-clause-met : goal.returns-in_ok-t-in-Null-clause-met
returns-in_ok-t-in-Null-clause-met c = λ s holds no h.
    let nodes = (graph_of c.args.g.now).nodes in
    let term = value_term (heads_of c.constant_tag.new.tags) in
    let found = code_met nodes c.args.links.now.links c.constant_tag.new.tags s holds c.args.port (value_behind c.args.v) c.in_ok-pick_of.field-0 (c.in_ok-pick_of.ensures.right term) h in
    alone_met s nodes (answers_of c.args.memo.now) c.args.port c.in_ok-t-in-Null.t no (found ∙ ap (λ (x : Pick). picked_met (node_met s nodes c.args.port.node) (shown_pick term x)) c.in-Null.is)

pub returns-in_ok-t-in-Text-clause-met : goal.returns-in_ok-t-in-Text-clause-met
returns-in_ok-t-in-Text-clause-met c = λ s holds no h.
    let nodes = (graph_of c.args.g.now).nodes in
    let term = value_term (heads_of c.constant_tag-in-Text.new.tags) in
    let found = code_met nodes c.args.links.now.links c.constant_tag-in-Text.new.tags s holds c.args.port (value_behind c.args.v) c.in_ok-pick_of.field-0 (c.in_ok-pick_of.ensures.right term) h in
    alone_met s nodes (answers_of c.args.memo.now) c.args.port c.in_ok-t-in-Text.t no (found ∙ ap (λ (x : Pick). picked_met (node_met s nodes c.args.port.node) (shown_pick term x)) c.in-Text.is)

pub returns-in-Held-clause-met : goal.returns-in-Held-clause-met
returns-in-Held-clause-met c = λ s holds no h.
    let nodes = (graph_of c.args.g.now).nodes in
    let term = value_term (heads_of c.args.tags.now) in
    let found = code_met nodes c.args.links.now.links c.args.tags.now s holds c.args.port (value_behind c.args.v) c.in_ok-pick_of.field-0 (c.in_ok-pick_of.ensures.right term) h in
    alone_met s nodes (answers_of c.args.memo.now) c.args.port c.in-Held.t no (found ∙ ap (λ (x : Pick). picked_met (node_met s nodes c.args.port.node) (shown_pick term x)) c.in-Held.is)

pub returns-in-Input-clause-met : goal.returns-in-Input-clause-met
returns-in-Input-clause-met c = λ s holds no h.
    let nodes = (graph_of c.args.g.now).nodes in
    let term = value_term (heads_of c.chosen.new.tags) in
    let found = code_met nodes c.args.links.now.links c.chosen.new.tags s holds c.args.port (value_behind c.args.v) c.in_ok-pick_of.field-0 (c.in_ok-pick_of.ensures.right term) h in
    c.chosen.ensures.met s no (found ∙ ap (λ (x : Pick). picked_met (node_met s nodes c.args.port.node) (shown_pick term x)) c.in-Input.is)
