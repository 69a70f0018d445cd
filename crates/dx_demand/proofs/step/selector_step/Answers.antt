use Rattle.dx_tags.proofs.Growth.{goes_on_then}
use Rattle.dx_demand.proofs.Finding.{memo_found_grows}
use Rattle.dx_demand.specs.Terms.{IsValue}
use Rattle.std.proofs.Common.{◌≡◌, ◌<◌, ◌∙◌, length, Some, option_map, sym, ap, subst}
use Rattle.dx_graph.specs.Graph.{node_at}
use Rattle.dx_graph.specs.GraphView.{graph_of}
use Rattle.dx_tags.specs.Closed.{heads_of, value_term}
use Rattle.dx_demand.specs.Given.{value_behind}
use Rattle.dx_meaning.specs.Scan.{Forms}
use Rattle.dx_demand.specs.Memo.{selector_of, selector_scan}
use Rattle.dx_demand.specs.Steps.{SelectionFits, SelectionRight, StepRight}
use Rattle.dx_demand.proofs.Growing.{links_fit_grows, memo_fits_grows, memo_right_grows, tells_before, on_ok_with, if_ok_with}
use Rattle.dx_demand.proofs.Ports.{picking_selects, selector_needs, selector_picks}
use Rattle.dx_demand.proofs.Leading.{selector_stops, selector_halted_by}
use Rattle.dx_demand.proofs.PortSteps.{nodes_of}
use Rattle.dx_meaning.specs.Forming.{HasAll}
use Rattle.dx_meaning.specs.Picking.{pick}
use Rattle.dx_demand.specs.Forming.{formings, SelectionForms, FormsStep, HasFront, pick_part}
use Rattle.dx_demand.proofs.FormedPorts.{selector_untold, selector_picked}
use Rattle.dx_demand.proofs.FormedSteps.{step_then, forms_held}
use Rattle.std.specs.Prelude.{IfOk}
use Rattle.dx_demand.specs.Memo.{Answers, answers_of}
use Rattle.dx_demand.specs.Calling.{SelectionMet, StepMet}
use Rattle.dx_demand.proofs.Calls.{selector_meets, picking_no_module}
use Rattle.dx_demand.proofs.step.selector_step.Goals as goal

pub picked-requires-clause-links : goal.picked-requires-clause-links
picked-requires-clause-links g c =
    links_fit_grows c.args.tags.now c.select_term.new.tags c.in_ok-first.ensures.goes_on c.args.links.now.links c.requires.links

pub returns-in-Before-clause-fits : goal.returns-in-Before-clause-fits
returns-in-Before-clause-fits g c =
    let nodes = (graph_of c.args.g.now).nodes in
    let lawful = nodes_of (graph_of c.args.g.now) c.args.g.now.lawful in
    let lt : c.args.port.node < length nodes = c.requires.port.0 in
    let told = g.G.Given.told c.args.given.now in
    let mid = c.select_term.new.tags in
    let memo = c.select_term.new.memo in
    subst (SelectionFits nodes mid told memo c.args.port) c.in-Before.is (c.in_ok-first.ensures.fits told)

pub returns-in-None-clause-fits : goal.returns-in-None-clause-fits
returns-in-None-clause-fits g c =
    let nodes = (graph_of c.args.g.now).nodes in
    let lawful = nodes_of (graph_of c.args.g.now) c.args.g.now.lawful in
    let lt : c.args.port.node < length nodes = c.requires.port.0 in
    let told = g.G.Given.told c.args.given.now in
    let mid = c.select_term.new.tags in
    let memo = c.select_term.new.memo in
    let fact : selector_of memo c.args.port.node ≡ Some c.in-Selects.t = subst (SelectionFits nodes mid told memo c.args.port) c.in-Selects.is (c.in_ok-first.ensures.fits told) in
    let fits : IsValue mid c.in-Selects.t = c.in_ok-first.ensures.memo.selectors c.args.port.node c.in-Selects.t fact in
    let term = value_term (heads_of mid) c.in-Selects.t in
    (fits, sym c.value.ensures ∙ ap (option_map value_behind) c.in-None.is, fact)

pub returns-in-None-clause-right : goal.returns-in-None-clause-right
returns-in-None-clause-right g c =
    let nodes = (graph_of c.args.g.now).nodes in
    let lawful = nodes_of (graph_of c.args.g.now) c.args.g.now.lawful in
    let lt : c.args.port.node < length nodes = c.requires.port.0 in
    let told = g.G.Given.told c.args.given.now in
    let mid = c.select_term.new.tags in
    let memo = c.select_term.new.memo in
    let fact : selector_of memo c.args.port.node ≡ Some c.in-Selects.t = subst (SelectionFits nodes mid told memo c.args.port) c.in-Selects.is (c.in_ok-first.ensures.fits told) in
    let fits : IsValue mid c.in-Selects.t = c.in_ok-first.ensures.memo.selectors c.args.port.node c.in-Selects.t fact in
    let term = value_term (heads_of mid) c.in-Selects.t in
    λ s tells holds m.
    let e : selector_scan s nodes c.args.port.node ≡ Forms term = subst (SelectionRight s nodes mid c.args.port) c.in-Selects.is (c.in_ok-first.ensures.right s m) in
    let none = sym (tells c.in-Selects.t fits) ∙ sym c.value.ensures ∙ ap (option_map value_behind) c.in-None.is in
    let selects = picking_selects (node_at nodes c.args.port.node).what c.requires.selects in
    (selector_needs s nodes lawful c.args.port lt selects term e none, selector_stops s nodes lawful c.args.port lt selects term e none)

pub returns-in-Some-clause-memo : goal.returns-in-Some-clause-memo
returns-in-Some-clause-memo g c =
    let nodes = (graph_of c.args.g.now).nodes in
    let lawful = nodes_of (graph_of c.args.g.now) c.args.g.now.lawful in
    let lt : c.args.port.node < length nodes = c.requires.port.0 in
    let told = g.G.Given.told c.args.given.now in
    let mid = c.select_term.new.tags in
    let memo = c.select_term.new.memo in
    on_ok_with c.picked.result c.picked.ensures.goes_on (λ more. memo_fits_grows nodes mid c.picked.new.tags more memo c.in_ok-first.ensures.memo)

pub returns-in-Some-clause-fits : goal.returns-in-Some-clause-fits
returns-in-Some-clause-fits g c =
    c.picked.ensures.fits (g.G.Given.told c.args.given.now)

pub returns-in-Some-clause-memo_right : goal.returns-in-Some-clause-memo_right
returns-in-Some-clause-memo_right g c =
    let nodes = (graph_of c.args.g.now).nodes in
    let lawful = nodes_of (graph_of c.args.g.now) c.args.g.now.lawful in
    let lt : c.args.port.node < length nodes = c.requires.port.0 in
    let told = g.G.Given.told c.args.given.now in
    let mid = c.select_term.new.tags in
    let memo = c.select_term.new.memo in
    λ s m. on_ok_with c.picked.result c.picked.ensures.goes_on (λ more. memo_right_grows s nodes mid c.picked.new.tags more memo c.in_ok-first.ensures.memo (c.in_ok-first.ensures.memo_right s m))

pub returns-in-Some-clause-right : goal.returns-in-Some-clause-right
returns-in-Some-clause-right g c =
    let nodes = (graph_of c.args.g.now).nodes in
    let lawful = nodes_of (graph_of c.args.g.now) c.args.g.now.lawful in
    let lt : c.args.port.node < length nodes = c.requires.port.0 in
    let told = g.G.Given.told c.args.given.now in
    let mid = c.select_term.new.tags in
    let memo = c.select_term.new.memo in
    let fact : selector_of memo c.args.port.node ≡ Some c.in-Selects.t = subst (SelectionFits nodes mid told memo c.args.port) c.in-Selects.is (c.in_ok-first.ensures.fits told) in
    let fits : IsValue mid c.in-Selects.t = c.in_ok-first.ensures.memo.selectors c.args.port.node c.in-Selects.t fact in
    let term = value_term (heads_of mid) c.in-Selects.t in
    λ s tells holds m. if_ok_with c.picked.result (λ x. StepRight s nodes c.picked.new.tags c.args.port x) c.picked.ensures.goes_on (λ more.
    let before = tells_before told mid c.picked.new.tags more s tells in
    let e : selector_scan s nodes c.args.port.node ≡ Forms term = subst (SelectionRight s nodes mid c.args.port) c.in-Selects.is (c.in_ok-first.ensures.right s m) in
    let v : s.told term ≡ Some (value_behind c.in-Some.v) = sym (before c.in-Selects.t fits) ∙ sym c.value.ensures ∙ ap (option_map value_behind) c.in-Some.is in
    c.picked.ensures.right s holds (c.in_ok-first.ensures.memo_right s m) (λ s' m'. (selector_picks s nodes lawful c.args.port lt c.requires.selects term e (value_behind c.in-Some.v) v s' m', selector_halted_by s nodes lawful c.args.port lt c.requires.selects term e (value_behind c.in-Some.v) v s' m')))

pub select_term-requires-clause-selects : goal.select_term-requires-clause-selects
select_term-requires-clause-selects g c = picking_selects (node_at (graph_of c.args.g.now).nodes c.args.port.node).what c.requires.selects

pub returns-in-Some-clause-goes_on : goal.returns-in-Some-clause-goes_on
returns-in-Some-clause-goes_on g c = goes_on_then c.args.tags.now c.select_term.new.tags c.picked.new.tags c.in_ok-first.ensures.goes_on c.picked.ensures.goes_on

pub returns-in-Some-clause-memo_found : goal.returns-in-Some-clause-memo_found
returns-in-Some-clause-memo_found g c = λ m. on_ok_with c.picked.result c.picked.ensures.goes_on (λ more.
    memo_found_grows (graph_of c.args.g.now).nodes c.select_term.new.tags c.picked.new.tags more c.in_ok-first.ensures.formed.formed c.args.links.now.links c.select_term.new.memo c.in_ok-first.ensures.memo (c.in_ok-first.ensures.memo_found c.args.links.now.links m))

pub returns-in-Before-clause-forms : goal.returns-in-Before-clause-forms
returns-in-Before-clause-forms g c = λ s tells holds m w.
    let nodes = (graph_of c.args.g.now).nodes in
    let lawful = nodes_of (graph_of c.args.g.now) c.args.g.now.lawful in
    let lt : c.args.port.node < length nodes = c.requires.port.0 in
    let told = g.G.Given.told c.args.given.now in
    let old = c.args.tags.now in
    let mid = c.select_term.new.tags in
    let memo = c.select_term.new.memo in
    let was = formings nodes old c.args.memo.now in
    let selected = c.in_ok-first.ensures.forms s m w in
    (selected.0, subst (SelectionForms s nodes (formings nodes mid memo) c.args.port) c.in-Before.is selected.1)

pub returns-in-None-clause-forms : goal.returns-in-None-clause-forms
returns-in-None-clause-forms g c = λ s tells holds m w.
    let nodes = (graph_of c.args.g.now).nodes in
    let lawful = nodes_of (graph_of c.args.g.now) c.args.g.now.lawful in
    let lt : c.args.port.node < length nodes = c.requires.port.0 in
    let told = g.G.Given.told c.args.given.now in
    let old = c.args.tags.now in
    let mid = c.select_term.new.tags in
    let memo = c.select_term.new.memo in
    let was = formings nodes old c.args.memo.now in
    let selected = c.in_ok-first.ensures.forms s m w in
    let fact : selector_of memo c.args.port.node ≡ Some c.in-Selects.t = subst (SelectionFits nodes mid told memo c.args.port) c.in-Selects.is (c.in_ok-first.ensures.fits told) in
    let fits : IsValue mid c.in-Selects.t = c.in_ok-first.ensures.memo.selectors c.args.port.node c.in-Selects.t fact in
    let term = value_term (heads_of mid) c.in-Selects.t in
    let there = subst (SelectionForms s nodes (formings nodes mid memo) c.args.port) c.in-Selects.is selected.1 in
    let e : selector_scan s nodes c.args.port.node ≡ Forms term = subst (SelectionRight s nodes mid c.args.port) c.in-Selects.is (c.in_ok-first.ensures.right s m) in
    let none = sym (tells c.in-Selects.t fits) ∙ sym c.value.ensures ∙ ap (option_map value_behind) c.in-None.is in
    (selected.0, subst (HasAll (formings nodes mid memo)) (sym (selector_untold s nodes lawful c.args.port lt (picking_selects (node_at nodes c.args.port.node).what c.requires.selects) term e none)) there)

pub returns-in-Some-clause-forms : goal.returns-in-Some-clause-forms
returns-in-Some-clause-forms g c = λ s tells holds m w.
    let nodes = (graph_of c.args.g.now).nodes in
    let lawful = nodes_of (graph_of c.args.g.now) c.args.g.now.lawful in
    let lt : c.args.port.node < length nodes = c.requires.port.0 in
    let told = g.G.Given.told c.args.given.now in
    let old = c.args.tags.now in
    let mid = c.select_term.new.tags in
    let memo = c.select_term.new.memo in
    let was = formings nodes old c.args.memo.now in
    let selected = c.in_ok-first.ensures.forms s m w in
    let fact : selector_of memo c.args.port.node ≡ Some c.in-Selects.t = subst (SelectionFits nodes mid told memo c.args.port) c.in-Selects.is (c.in_ok-first.ensures.fits told) in
    let fits : IsValue mid c.in-Selects.t = c.in_ok-first.ensures.memo.selectors c.args.port.node c.in-Selects.t fact in
    let term = value_term (heads_of mid) c.in-Selects.t in
    let there = subst (SelectionForms s nodes (formings nodes mid memo) c.args.port) c.in-Selects.is selected.1 in
    let e : selector_scan s nodes c.args.port.node ≡ Forms term = subst (SelectionRight s nodes mid c.args.port) c.in-Selects.is (c.in_ok-first.ensures.right s m) in
    step_then c.picked.result s nodes old c.args.memo.now mid memo c.picked.new.tags memo c.args.port 0 selected.0
    (if_ok_with c.picked.result (λ x. FormsStep s nodes mid memo c.picked.new.tags memo c.args.port 0 x) c.picked.ensures.goes_on (λ more.
    let before = tells_before told mid c.picked.new.tags more s tells in
    let v : s.told term ≡ Some (value_behind c.in-Some.v) = sym (before c.in-Selects.t fits) ∙ sym c.value.ensures ∙ ap (option_map value_behind) c.in-Some.is in
    let front = selector_picked s nodes lawful c.args.port lt c.requires.selects (picking_selects (node_at nodes c.args.port.node).what c.requires.selects) term e (value_behind c.in-Some.v) v (formings nodes mid memo) there in
    let same = forms_held c.args.links.now.links c.picked.new.tags s holds in
    c.picked.ensures.forms s selected.0.memo (subst (λ x. HasFront s nodes (formings nodes mid memo) c.args.port (pick_part nodes c.args.port (pick x (node_at nodes c.args.port.node).what (node_at nodes c.args.port.node).place c.args.port.result (value_behind c.in-Some.v)))) same front)))

pub returns-in-Before-clause-met : goal.returns-in-Before-clause-met
returns-in-Before-clause-met g c = λ s tells holds m. subst (SelectionMet s (graph_of c.args.g.now).nodes (answers_of c.args.memo.now) c.args.port) c.in-Before.is (c.in_ok-first.ensures.met s)

pub returns-in-Some-clause-met : goal.returns-in-Some-clause-met
returns-in-Some-clause-met g c = λ s tells holds m.
    let nodes = (graph_of c.args.g.now).nodes in
    let lawful = nodes_of (graph_of c.args.g.now) c.args.g.now.lawful in
    let lt : c.args.port.node < length nodes = c.requires.port.0 in
    let told = g.G.Given.told c.args.given.now in
    let mid = c.select_term.new.tags in
    let memo = c.select_term.new.memo in
    let fact : selector_of memo c.args.port.node ≡ Some c.in-Selects.t = subst (SelectionFits nodes mid told memo c.args.port) c.in-Selects.is (c.in_ok-first.ensures.fits told) in
    let fits : IsValue mid c.in-Selects.t = c.in_ok-first.ensures.memo.selectors c.args.port.node c.in-Selects.t fact in
    let term = value_term (heads_of mid) c.in-Selects.t in
    subst (λ (x : Answers). IfOk c.picked.result (λ y. StepMet s nodes x c.args.port y)) c.in_ok-first.ensures.answers
    (if_ok_with c.picked.result (λ x. StepMet s nodes (answers_of memo) c.args.port x) c.picked.ensures.goes_on (λ more.
    let before = tells_before told mid c.picked.new.tags more s tells in
    let e : selector_scan s nodes c.args.port.node ≡ Forms term = subst (SelectionRight s nodes mid c.args.port) c.in-Selects.is (c.in_ok-first.ensures.right s m) in
    let v : s.told term ≡ Some (value_behind c.in-Some.v) = sym (before c.in-Selects.t fits) ∙ sym c.value.ensures ∙ ap (option_map value_behind) c.in-Some.is in
    c.picked.ensures.met s holds (picking_no_module (node_at nodes c.args.port.node).what c.requires.selects) (selector_meets s nodes lawful c.args.port lt c.requires.selects term e (value_behind c.in-Some.v) v)))

pub returns-in-Some-clause-selected : goal.returns-in-Some-clause-selected
returns-in-Some-clause-selected g c = λ h. on_ok_with c.picked.result c.picked.ensures.goes_on (λ more. c.in_ok-first.ensures.selected h)
