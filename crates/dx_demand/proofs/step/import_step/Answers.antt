use Rattle.dx_demand.specs.Memo.{formed_of}
use Rattle.dx_demand.proofs.Finding.{kept_same, all_found_grows}
use Rattle.dx_demand.specs.Terms.{IsValue}
use Rattle.dx_demand.proofs.Terms.{arguments_on}
use Rattle.std.proofs.Common.{inl, ◌≡◌, ◌<◌, ◌∙◌, length, Some, option_map, sym, ap, subst}
use Rattle.dx_graph.specs.Graph.{node_at}
use Rattle.dx_graph.specs.GraphView.{graph_of}
use Rattle.dx_tags.specs.Closed.{heads_of, value_term}
use Rattle.dx_tags.proofs.Growth.{goes_on_then}
use Rattle.dx_meaning.specs.Scan.{Forms}
use Rattle.dx_demand.specs.Given.{value_behind}
use Rattle.dx_demand.specs.Memo.{selector_of, selector_scan, node_scans}
use Rattle.dx_demand.specs.Steps.{SelectionFits, SelectionRight, StepRight}
use Rattle.dx_demand.proofs.Growing.{tells_before, begins_grows, on_ok_then, on_ok_with, if_ok_with}
use Rattle.dx_demand.proofs.Memos.{same_selectors_keep}
use Rattle.dx_demand.proofs.Ports.{name_is_import, name_selects, name_place, selector_needs, named_rule}
use Rattle.dx_demand.proofs.Leading.{selector_stops, named_halted}
use Rattle.dx_demand.proofs.PortSteps.{nodes_of}
use Rattle.dx_meaning.specs.Forming.{HasAll}
use Rattle.dx_meaning.proofs.Formed.{all_grow}
use Rattle.dx_demand.specs.Forming.{formings, node_forms, first_forms, SelectionForms, FormsStep}
use Rattle.dx_demand.proofs.FormedPorts.{selector_untold, named_formed}
use Rattle.dx_demand.proofs.FormedSteps.{formation_with, step_then}
use Rattle.std.specs.Prelude.{IfOk, OnOk}
use Rattle.dx_demand.specs.Memo.{Answers, answers_of}
use Rattle.dx_demand.specs.Calling.{AreValued, SelectionMet, StepMet}
use Rattle.dx_demand.proofs.Calls.{selectors_kept}
use Rattle.dx_demand.proofs.step.import_step.Goals as goal

pub select_term-requires-clause-selects : goal.select_term-requires-clause-selects
select_term-requires-clause-selects g c = name_selects (node_at (graph_of c.args.g.now).nodes c.args.port.node).what c.args.called c.requires.what c.requires.selects

pub select_term-requires-clause-place : goal.select_term-requires-clause-place
select_term-requires-clause-place g c = name_place (node_at (graph_of c.args.g.now).nodes c.args.port.node).what c.args.called c.requires.what c.requires.selects

pub module_step-requires-clause-earlier : goal.module_step-requires-clause-earlier
module_step-requires-clause-earlier g c = arguments_on c.args.tags.now c.select_term.new.tags c.in_ok-first.ensures.goes_on c.args.arguments.now c.requires.earlier

pub returns-in-Before-clause-earlier : goal.returns-in-Before-clause-earlier
returns-in-Before-clause-earlier g c = arguments_on c.args.tags.now c.select_term.new.tags c.in_ok-first.ensures.goes_on c.args.arguments.now c.requires.earlier

pub returns-in-Before-clause-begins : goal.returns-in-Before-clause-begins
returns-in-Before-clause-begins g c = λ s m b.
    let nodes = (graph_of c.args.g.now).nodes in
    let mid = c.select_term.new.tags in
    begins_grows c.args.tags.now mid c.in_ok-first.ensures.goes_on (node_scans s nodes c.args.port.node) c.args.arguments.now c.requires.earlier b

pub returns-in-None-clause-earlier : goal.returns-in-None-clause-earlier
returns-in-None-clause-earlier g c = arguments_on c.args.tags.now c.select_term.new.tags c.in_ok-first.ensures.goes_on c.args.arguments.now c.requires.earlier

pub returns-in-None-clause-begins : goal.returns-in-None-clause-begins
returns-in-None-clause-begins g c = λ s m b.
    let nodes = (graph_of c.args.g.now).nodes in
    let mid = c.select_term.new.tags in
    begins_grows c.args.tags.now mid c.in_ok-first.ensures.goes_on (node_scans s nodes c.args.port.node) c.args.arguments.now c.requires.earlier b

pub returns-in-Before-clause-fits : goal.returns-in-Before-clause-fits
returns-in-Before-clause-fits g c =
    let nodes = (graph_of c.args.g.now).nodes in
    let lawful = nodes_of (graph_of c.args.g.now) c.args.g.now.lawful in
    let lt : c.args.port.node < length nodes = c.requires.port.0 in
    let told = g.G.Given.told c.args.given.now in
    let mid = c.select_term.new.tags in
    let memo = c.select_term.new.memo in
    subst (SelectionFits nodes mid told memo c.args.port) c.in-Before.is (c.in_ok-first.ensures.fits told)

pub returns-in-None-clause-fits : goal.returns-in-None-clause-fits
returns-in-None-clause-fits g c =
    let nodes = (graph_of c.args.g.now).nodes in
    let lawful = nodes_of (graph_of c.args.g.now) c.args.g.now.lawful in
    let lt : c.args.port.node < length nodes = c.requires.port.0 in
    let told = g.G.Given.told c.args.given.now in
    let mid = c.select_term.new.tags in
    let memo = c.select_term.new.memo in
    let fact : selector_of memo c.args.port.node ≡ Some c.in-Selects.t = subst (SelectionFits nodes mid told memo c.args.port) c.in-Selects.is (c.in_ok-first.ensures.fits told) in
    let fits : IsValue mid c.in-Selects.t = c.in_ok-first.ensures.memo.selectors c.args.port.node c.in-Selects.t fact in
    let term = value_term (heads_of mid) c.in-Selects.t in
    let selects = name_selects (node_at nodes c.args.port.node).what c.args.called c.requires.what c.requires.selects in
    (fits, sym c.value.ensures ∙ ap (option_map value_behind) c.in-None.is, fact)

pub returns-in-None-clause-right : goal.returns-in-None-clause-right
returns-in-None-clause-right g c =
    let nodes = (graph_of c.args.g.now).nodes in
    let lawful = nodes_of (graph_of c.args.g.now) c.args.g.now.lawful in
    let lt : c.args.port.node < length nodes = c.requires.port.0 in
    let told = g.G.Given.told c.args.given.now in
    let mid = c.select_term.new.tags in
    let memo = c.select_term.new.memo in
    let fact : selector_of memo c.args.port.node ≡ Some c.in-Selects.t = subst (SelectionFits nodes mid told memo c.args.port) c.in-Selects.is (c.in_ok-first.ensures.fits told) in
    let fits : IsValue mid c.in-Selects.t = c.in_ok-first.ensures.memo.selectors c.args.port.node c.in-Selects.t fact in
    let term = value_term (heads_of mid) c.in-Selects.t in
    let selects = name_selects (node_at nodes c.args.port.node).what c.args.called c.requires.what c.requires.selects in
    λ s tells wrote m b.
    let e : selector_scan s nodes c.args.port.node ≡ Forms term = subst (SelectionRight s nodes mid c.args.port) c.in-Selects.is (c.in_ok-first.ensures.right s m) in
    let none = sym (tells c.in-Selects.t fits) ∙ sym c.value.ensures ∙ ap (option_map value_behind) c.in-None.is in
    (selector_needs s nodes lawful c.args.port lt selects term e none, selector_stops s nodes lawful c.args.port lt selects term e none)

pub returns-in_ok-file-in-Some-clause-kept : goal.returns-in_ok-file-in-Some-clause-kept
returns-in_ok-file-in-Some-clause-kept g c = λ n t e. same_selectors_keep c.select_term.new.memo c.module_step.new.memo c.module_step.ensures.selectors n t (c.in_ok-first.ensures.kept n t e)

pub returns-in_ok-file-in-Some-clause-fits : goal.returns-in_ok-file-in-Some-clause-fits
returns-in_ok-file-in-Some-clause-fits g c = c.module_step.ensures.fits (g.G.Given.told c.args.given.now)

pub returns-in_ok-file-in-Some-clause-begins : goal.returns-in_ok-file-in-Some-clause-begins
returns-in_ok-file-in-Some-clause-begins g c = λ s m b.
    let nodes = (graph_of c.args.g.now).nodes in
    let mid = c.select_term.new.tags in
    c.module_step.ensures.begins s (c.in_ok-first.ensures.memo_right s m) (begins_grows c.args.tags.now mid c.in_ok-first.ensures.goes_on (node_scans s nodes c.args.port.node) c.args.arguments.now c.requires.earlier b)

pub returns-in_ok-file-in-Some-clause-right : goal.returns-in_ok-file-in-Some-clause-right
returns-in_ok-file-in-Some-clause-right g c =
    let nodes = (graph_of c.args.g.now).nodes in
    let lawful = nodes_of (graph_of c.args.g.now) c.args.g.now.lawful in
    let lt : c.args.port.node < length nodes = c.requires.port.0 in
    let told = g.G.Given.told c.args.given.now in
    let mid = c.select_term.new.tags in
    let memo = c.select_term.new.memo in
    let fact : selector_of memo c.args.port.node ≡ Some c.in-Selects.t = subst (SelectionFits nodes mid told memo c.args.port) c.in-Selects.is (c.in_ok-first.ensures.fits told) in
    let fits : IsValue mid c.in-Selects.t = c.in_ok-first.ensures.memo.selectors c.args.port.node c.in-Selects.t fact in
    let term = value_term (heads_of mid) c.in-Selects.t in
    let selects = name_selects (node_at nodes c.args.port.node).what c.args.called c.requires.what c.requires.selects in
    let new = c.module_step.new.tags in
    λ s tells wrote m b. if_ok_with c.module_step.result (λ x. StepRight s nodes new c.args.port x) c.module_step.ensures.goes_on (λ more.
    let e : selector_scan s nodes c.args.port.node ≡ Forms term = subst (SelectionRight s nodes mid c.args.port) c.in-Selects.is (c.in_ok-first.ensures.right s m) in
    let before = tells_before told mid new more s tells in
    let v : s.told term ≡ Some (value_behind c.in-Some.v) = sym (before c.in-Selects.t fits) ∙ sym c.value.ensures ∙ ap (option_map value_behind) c.in-Some.is in
    c.module_step.ensures.right s (c.in_ok-first.ensures.memo_right s m) (begins_grows c.args.tags.now mid c.in_ok-first.ensures.goes_on (node_scans s nodes c.args.port.node) c.args.arguments.now c.requires.earlier b)
    (λ s' m'. (
      named_rule s nodes lawful c.args.port lt c.args.called c.requires.what selects term e (value_behind c.in-Some.v) v c.in_ok-file-in-Some.file (c.in_ok-file-in-Some.ensures s wrote) s' m',
      named_halted s nodes lawful c.args.port lt c.args.called c.requires.what selects term e (value_behind c.in-Some.v) v s' m',
    )))

pub module_step-requires-clause-reads : goal.module_step-requires-clause-reads
module_step-requires-clause-reads g c = inl (name_is_import c.args.called c.requires.selects)

pub returns-in-Before-clause-arguments_found : goal.returns-in-Before-clause-arguments_found
returns-in-Before-clause-arguments_found g c = λ l m f. all_found_grows c.args.tags.now c.select_term.new.tags c.in_ok-first.ensures.goes_on l (formed_of c.args.memo.now) (formed_of c.select_term.new.memo) (kept_same c.args.memo.now c.select_term.new.memo c.in_ok-first.ensures.same) c.args.arguments.now c.requires.earlier.earlier f

pub returns-in-None-clause-arguments_found : goal.returns-in-None-clause-arguments_found
returns-in-None-clause-arguments_found g c = λ l m f. all_found_grows c.args.tags.now c.select_term.new.tags c.in_ok-first.ensures.goes_on l (formed_of c.args.memo.now) (formed_of c.select_term.new.memo) (kept_same c.args.memo.now c.select_term.new.memo c.in_ok-first.ensures.same) c.args.arguments.now c.requires.earlier.earlier f

pub returns-in_ok-file-in-Some-clause-first : goal.returns-in_ok-file-in-Some-clause-first
returns-in_ok-file-in-Some-clause-first g c = on_ok_then c.module_step.result c.module_step.ensures.first (λ k t n e. k t n (kept_same c.args.memo.now c.select_term.new.memo c.in_ok-first.ensures.same t n e))

pub returns-in_ok-file-in-Some-clause-memo_found : goal.returns-in_ok-file-in-Some-clause-memo_found
returns-in_ok-file-in-Some-clause-memo_found g c = λ l m f. c.module_step.ensures.memo_found l (c.in_ok-first.ensures.memo_found l m) (all_found_grows c.args.tags.now c.select_term.new.tags c.in_ok-first.ensures.goes_on l (formed_of c.args.memo.now) (formed_of c.select_term.new.memo) (kept_same c.args.memo.now c.select_term.new.memo c.in_ok-first.ensures.same) c.args.arguments.now c.requires.earlier.earlier f)

pub returns-in_ok-file-in-Some-clause-arguments_found : goal.returns-in_ok-file-in-Some-clause-arguments_found
returns-in_ok-file-in-Some-clause-arguments_found g c = λ l m f. c.module_step.ensures.arguments_found l (c.in_ok-first.ensures.memo_found l m) (all_found_grows c.args.tags.now c.select_term.new.tags c.in_ok-first.ensures.goes_on l (formed_of c.args.memo.now) (formed_of c.select_term.new.memo) (kept_same c.args.memo.now c.select_term.new.memo c.in_ok-first.ensures.same) c.args.arguments.now c.requires.earlier.earlier f)

pub returns-in_ok-file-in-Some-clause-found : goal.returns-in_ok-file-in-Some-clause-found
returns-in_ok-file-in-Some-clause-found g c = λ l m f. c.module_step.ensures.found l (c.in_ok-first.ensures.memo_found l m) (all_found_grows c.args.tags.now c.select_term.new.tags c.in_ok-first.ensures.goes_on l (formed_of c.args.memo.now) (formed_of c.select_term.new.memo) (kept_same c.args.memo.now c.select_term.new.memo c.in_ok-first.ensures.same) c.args.arguments.now c.requires.earlier.earlier f)

pub returns-in-Before-clause-forms : goal.returns-in-Before-clause-forms
returns-in-Before-clause-forms g c = λ s tells wrote m b w a.
    let nodes = (graph_of c.args.g.now).nodes in
    let lawful = nodes_of (graph_of c.args.g.now) c.args.g.now.lawful in
    let lt : c.args.port.node < length nodes = c.requires.port.0 in
    let told = g.G.Given.told c.args.given.now in
    let old = c.args.tags.now in
    let mid = c.select_term.new.tags in
    let memo = c.select_term.new.memo in
    let was = formings nodes old c.args.memo.now in
    let selected = c.in_ok-first.ensures.forms s m w in
    (formation_with s nodes old c.args.memo.now mid memo c.args.port (length c.args.arguments.now) a selected.0, subst (SelectionForms s nodes (formings nodes mid memo) c.args.port) c.in-Before.is selected.1)

pub returns-in-None-clause-forms : goal.returns-in-None-clause-forms
returns-in-None-clause-forms g c = λ s tells wrote m b w a.
    let nodes = (graph_of c.args.g.now).nodes in
    let lawful = nodes_of (graph_of c.args.g.now) c.args.g.now.lawful in
    let lt : c.args.port.node < length nodes = c.requires.port.0 in
    let told = g.G.Given.told c.args.given.now in
    let old = c.args.tags.now in
    let mid = c.select_term.new.tags in
    let memo = c.select_term.new.memo in
    let was = formings nodes old c.args.memo.now in
    let selected = c.in_ok-first.ensures.forms s m w in
    let fact : selector_of memo c.args.port.node ≡ Some c.in-Selects.t = subst (SelectionFits nodes mid told memo c.args.port) c.in-Selects.is (c.in_ok-first.ensures.fits told) in
    let fits : IsValue mid c.in-Selects.t = c.in_ok-first.ensures.memo.selectors c.args.port.node c.in-Selects.t fact in
    let term = value_term (heads_of mid) c.in-Selects.t in
    let there = subst (SelectionForms s nodes (formings nodes mid memo) c.args.port) c.in-Selects.is selected.1 in
    let e : selector_scan s nodes c.args.port.node ≡ Forms term = subst (SelectionRight s nodes mid c.args.port) c.in-Selects.is (c.in_ok-first.ensures.right s m) in
    let none = sym (tells c.in-Selects.t fits) ∙ sym c.value.ensures ∙ ap (option_map value_behind) c.in-None.is in
    (formation_with s nodes old c.args.memo.now mid memo c.args.port (length c.args.arguments.now) a selected.0, subst (HasAll (formings nodes mid memo)) (sym (selector_untold s nodes lawful c.args.port lt (name_selects (node_at nodes c.args.port.node).what c.args.called c.requires.what c.requires.selects) term e none)) there)

pub returns-in_ok-file-in-Some-clause-forms : goal.returns-in_ok-file-in-Some-clause-forms
returns-in_ok-file-in-Some-clause-forms g c = λ s tells wrote m b w a.
    let nodes = (graph_of c.args.g.now).nodes in
    let lawful = nodes_of (graph_of c.args.g.now) c.args.g.now.lawful in
    let lt : c.args.port.node < length nodes = c.requires.port.0 in
    let told = g.G.Given.told c.args.given.now in
    let old = c.args.tags.now in
    let mid = c.select_term.new.tags in
    let memo = c.select_term.new.memo in
    let was = formings nodes old c.args.memo.now in
    let selected = c.in_ok-first.ensures.forms s m w in
    let fact : selector_of memo c.args.port.node ≡ Some c.in-Selects.t = subst (SelectionFits nodes mid told memo c.args.port) c.in-Selects.is (c.in_ok-first.ensures.fits told) in
    let fits : IsValue mid c.in-Selects.t = c.in_ok-first.ensures.memo.selectors c.args.port.node c.in-Selects.t fact in
    let term = value_term (heads_of mid) c.in-Selects.t in
    let there = subst (SelectionForms s nodes (formings nodes mid memo) c.args.port) c.in-Selects.is selected.1 in
    let e : selector_scan s nodes c.args.port.node ≡ Forms term = subst (SelectionRight s nodes mid c.args.port) c.in-Selects.is (c.in_ok-first.ensures.right s m) in
    let new = c.module_step.new.tags in
    let count = length c.module_step.new.arguments in
    step_then c.module_step.result s nodes old c.args.memo.now mid memo new c.module_step.new.memo c.args.port count selected.0
    (if_ok_with c.module_step.result (λ x. FormsStep s nodes mid memo new c.module_step.new.memo c.args.port count x) c.module_step.ensures.goes_on (λ more.
    let before = tells_before told mid new more s tells in
    let v : s.told term ≡ Some (value_behind c.in-Some.v) = sym (before c.in-Selects.t fits) ∙ sym c.value.ensures ∙ ap (option_map value_behind) c.in-Some.is in
    let begun = begins_grows old mid c.in_ok-first.ensures.goes_on (node_scans s nodes c.args.port.node) c.args.arguments.now c.requires.earlier b in
    let kept = all_grow was (formings nodes mid memo) selected.0.toward.grows (first_forms (length c.args.arguments.now) (node_forms s nodes c.args.port.node)) a in
    c.module_step.ensures.forms s (c.in_ok-first.ensures.memo_right s m) begun selected.0.memo kept
    (named_formed s nodes lawful c.args.port lt c.args.called c.requires.what (name_selects (node_at nodes c.args.port.node).what c.args.called c.requires.what c.requires.selects) term e (value_behind c.in-Some.v) v c.in_ok-file-in-Some.file (c.in_ok-file-in-Some.ensures s wrote) (formings nodes mid memo) there)))

pub returns-in-Before-clause-met : goal.returns-in-Before-clause-met
returns-in-Before-clause-met g c = λ s a. subst (SelectionMet s (graph_of c.args.g.now).nodes (answers_of c.args.memo.now) c.args.port) c.in-Before.is (c.in_ok-first.ensures.met s)

pub returns-in_ok-file-in-Some-clause-met : goal.returns-in_ok-file-in-Some-clause-met
returns-in_ok-file-in-Some-clause-met g c = λ s a.
    let nodes = (graph_of c.args.g.now).nodes in
    let inputs = (node_at nodes c.args.port.node).inputs in
    let same = c.in_ok-first.ensures.answers in
    subst (λ (x : Answers). IfOk c.module_step.result (λ y. StepMet s nodes x c.args.port y)) same
    (c.module_step.ensures.met s (subst (λ (x : Answers). AreValued x inputs (length c.args.arguments.now)) (sym same) a))

pub returns-in_ok-file-in-Some-clause-valued : goal.returns-in_ok-file-in-Some-clause-valued
returns-in_ok-file-in-Some-clause-valued g c = λ a.
    let nodes = (graph_of c.args.g.now).nodes in
    let inputs = (node_at nodes c.args.port.node).inputs in
    let same = c.in_ok-first.ensures.answers in
    subst (λ (x : Answers). OnOk c.module_step.result (AreValued x inputs (length c.module_step.new.arguments))) same
    (c.module_step.ensures.valued (subst (λ (x : Answers). AreValued x inputs (length c.args.arguments.now)) (sym same) a))

pub returns-in_ok-file-in-Some-clause-selected : goal.returns-in_ok-file-in-Some-clause-selected
returns-in_ok-file-in-Some-clause-selected g c = λ h. on_ok_with c.module_step.result c.module_step.ensures.goes_on (λ more.
    selectors_kept (graph_of c.args.g.now).nodes c.select_term.new.memo c.module_step.new.memo c.module_step.ensures.answers c.module_step.ensures.selectors (c.in_ok-first.ensures.selected h))

pub returns-in_ok-file-in-Some-clause-goes_on : goal.returns-in_ok-file-in-Some-clause-goes_on
returns-in_ok-file-in-Some-clause-goes_on g c = goes_on_then c.args.tags.now c.select_term.new.tags c.module_step.new.tags c.in_ok-first.ensures.goes_on c.module_step.ensures.goes_on
