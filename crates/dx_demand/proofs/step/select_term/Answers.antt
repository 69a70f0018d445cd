use Rattle.dx_demand.specs.Memo.{formed_of}
use Rattle.dx_demand.specs.Found.{KnownFound}
use Rattle.dx_demand.proofs.Finding.{found_as, same_firsts, select_found, memo_found_grows}
use Rattle.dx_demand.specs.Terms.{IsValue}
use Rattle.std.proofs.Common.{◌≡◌, ◌<◌, ◌∙◌, length, Some, sym, ap, subst, arith}
use Rattle.std.specs.Prelude.{slice_get}
use Rattle.dx_graph.specs.declared.node.Node.{Node}
use Rattle.dx_graph.specs.Graph.{node_at}
use Rattle.dx_graph.specs.GraphView.{graph_of}
use Rattle.dx_graph.specs.Unfolding.{calls_of}
use Rattle.dx_tags.specs.Closed.{heads_of, value_term}
use Rattle.dx_meaning.specs.Picking.{selector_at}
use Rattle.dx_meaning.specs.Scan.{IsOff, Stops, Forms, Ends}
use Rattle.dx_demand.specs.Memo.{answers_of, site_of, node_scans}
use Rattle.dx_demand.specs.Steps.{KnownFits, KnownRight}
use Rattle.dx_demand.specs.declared.step.Known.TheVariants as known
use Rattle.dx_demand.specs.declared.settled.Settled.TheVariants as settled
use Rattle.dx_demand.proofs.Growing.{memo_fits_grows, memo_right_grows}
use Rattle.dx_demand.proofs.Memos.{Selects, select_fits, select_right}
use Rattle.dx_demand.proofs.Ports.{each_at, at_some, selector_ends}
use Rattle.dx_demand.proofs.Leading.{selector_leads}
use Rattle.dx_demand.proofs.PortSteps.{nodes_of}
use Rattle.dx_demand.proofs.Taken.{slot, takes, takes_in, awaited, selector_within}
use Rattle.std.proofs.lemmas.List.{length-set}
use Rattle.dx_meaning.specs.Forming.{HasAll}
use Rattle.dx_demand.specs.Forming.{KnownForms, formings, input_forms, port_forms, selector_formed, Toward}
use Rattle.dx_demand.proofs.FormedPorts.{selector_next, selector_over, selector_awaits, toward_itself}
use Rattle.dx_demand.proofs.FormedSteps.{formings_same, formation_of, toward_same, memo_formed_grows, select_formed}
use Rattle.dx_demand.specs.Calling.{KnownValued}
use Rattle.dx_demand.proofs.Memos.{answers_same}
use Rattle.dx_demand.proofs.Calls.{select_valued}
use Rattle.dx_demand.proofs.step.select_term.Goals as goal

pub known_of-requires-clause-input : goal.known_of-requires-clause-input
known_of-requires-clause-input c =
    let nodes = (graph_of c.args.g.now).nodes in
    let lawful = nodes_of (graph_of c.args.g.now) c.args.g.now.lawful in
    let lt : c.args.port.node < length nodes = c.requires.port.0 in
    let inputs = (node_at nodes c.args.port.node).inputs in
    let same : c.as_slice.result.now ≡ inputs = c.as_slice.ensures ∙ ap (λ (x : Node). x.inputs) c.node.ensures in
    let place = selector_at (node_at nodes c.args.port.node).what in
    let x = c.index-as_slice-place.result in
    let whole = ap length same in
    let there = selector_within nodes lawful c.args.port.node lt c.requires.selects in
    let at : slice_get inputs place ≡ Some x = slot c.as_slice.result.now inputs c.args.place place x same c.requires.place (omega (arith, whole, there, c.requires.place)) c.index-as_slice-place.is in
    takes_in nodes c.args.port.node lt x (takes nodes lawful c.args.port.node lt place x at)

pub returns-in-Settled-Value-clause-memo : goal.returns-in-Settled-Value-clause-memo
returns-in-Settled-Value-clause-memo c =
    let nodes = (graph_of c.args.g.now).nodes in
    let lawful = nodes_of (graph_of c.args.g.now) c.args.g.now.lawful in
    let lt : c.args.port.node < length nodes = c.requires.port.0 in
    let inputs = (node_at nodes c.args.port.node).inputs in
    let same : c.as_slice.result.now ≡ inputs = c.as_slice.ensures ∙ ap (λ (x : Node). x.inputs) c.node.ensures in
    let place = selector_at (node_at nodes c.args.port.node).what in
    let x = c.index-as_slice-place.result in
    let whole = ap length same in
    let there = selector_within nodes lawful c.args.port.node lt c.requires.selects in
    let at : slice_get inputs place ≡ Some x = slot c.as_slice.result.now inputs c.args.place place x same c.requires.place (omega (arith, whole, there, c.requires.place)) c.index-as_slice-place.is in
    let old = c.args.tags.now in
    let new = c.known_of.new.tags in
    let goes = c.in_ok-t-in-None.ensures.goes_on in
    let is : c.in_ok-t-in-None.field-0 ≡ known.Settled (settled.Value c.in-Settled-Value.t) = c.in-Settled-Value.is ∙ ap known.Settled c.in-Settled-Value.field-0-is in
    let sel : Selects c.args.memo.now c.select.new.self c.args.port.node c.in-Settled-Value.t = (c.select.ensures.selectors, c.select.ensures.answers, c.select.ensures.formed) in
    let within : c.args.port.node < length c.args.memo.now.selectors.items = omega (arith, lt, c.requires.memo.places) in
    let fits : IsValue new c.in-Settled-Value.t = subst (KnownFits nodes new (answers_of c.args.memo.now) x) is c.in_ok-t-in-None.ensures.fits in
    select_fits nodes new c.args.memo.now c.select.new.self c.args.port.node c.in-Settled-Value.t sel within fits (ap length c.select.ensures.selectors ∙ length-set c.args.memo.now.selectors.items c.args.port.node (Some c.in-Settled-Value.t)) (memo_fits_grows nodes old new goes c.args.memo.now c.requires.memo)

pub returns-in-Settled-Value-clause-memo_right : goal.returns-in-Settled-Value-clause-memo_right
returns-in-Settled-Value-clause-memo_right c =
    let nodes = (graph_of c.args.g.now).nodes in
    let lawful = nodes_of (graph_of c.args.g.now) c.args.g.now.lawful in
    let lt : c.args.port.node < length nodes = c.requires.port.0 in
    let inputs = (node_at nodes c.args.port.node).inputs in
    let same : c.as_slice.result.now ≡ inputs = c.as_slice.ensures ∙ ap (λ (x : Node). x.inputs) c.node.ensures in
    let place = selector_at (node_at nodes c.args.port.node).what in
    let x = c.index-as_slice-place.result in
    let whole = ap length same in
    let there = selector_within nodes lawful c.args.port.node lt c.requires.selects in
    let at : slice_get inputs place ≡ Some x = slot c.as_slice.result.now inputs c.args.place place x same c.requires.place (omega (arith, whole, there, c.requires.place)) c.index-as_slice-place.is in
    let old = c.args.tags.now in
    let new = c.known_of.new.tags in
    let goes = c.in_ok-t-in-None.ensures.goes_on in
    let is : c.in_ok-t-in-None.field-0 ≡ known.Settled (settled.Value c.in-Settled-Value.t) = c.in-Settled-Value.is ∙ ap known.Settled c.in-Settled-Value.field-0-is in
    let sel : Selects c.args.memo.now c.select.new.self c.args.port.node c.in-Settled-Value.t = (c.select.ensures.selectors, c.select.ensures.answers, c.select.ensures.formed) in
    let within : c.args.port.node < length c.args.memo.now.selectors.items = omega (arith, lt, c.requires.memo.places) in
    λ s m. select_right s nodes new c.args.memo.now c.select.new.self c.args.port.node c.in-Settled-Value.t sel within (at_some (node_scans s nodes c.args.port.node) place (Forms (value_term (heads_of new) c.in-Settled-Value.t)) (each_at s (calls_of nodes) inputs place x at ∙ ap Some (subst (KnownRight s nodes new x) is (c.in_ok-t-in-None.ensures.right s m)))) (memo_right_grows s nodes old new goes c.args.memo.now c.requires.memo m)

pub returns-in-Settled-Value-clause-right : goal.returns-in-Settled-Value-clause-right
returns-in-Settled-Value-clause-right c =
    let nodes = (graph_of c.args.g.now).nodes in
    let lawful = nodes_of (graph_of c.args.g.now) c.args.g.now.lawful in
    let lt : c.args.port.node < length nodes = c.requires.port.0 in
    let inputs = (node_at nodes c.args.port.node).inputs in
    let same : c.as_slice.result.now ≡ inputs = c.as_slice.ensures ∙ ap (λ (x : Node). x.inputs) c.node.ensures in
    let place = selector_at (node_at nodes c.args.port.node).what in
    let x = c.index-as_slice-place.result in
    let whole = ap length same in
    let there = selector_within nodes lawful c.args.port.node lt c.requires.selects in
    let at : slice_get inputs place ≡ Some x = slot c.as_slice.result.now inputs c.args.place place x same c.requires.place (omega (arith, whole, there, c.requires.place)) c.index-as_slice-place.is in
    let old = c.args.tags.now in
    let new = c.known_of.new.tags in
    let goes = c.in_ok-t-in-None.ensures.goes_on in
    let is : c.in_ok-t-in-None.field-0 ≡ known.Settled (settled.Value c.in-Settled-Value.t) = c.in-Settled-Value.is ∙ ap known.Settled c.in-Settled-Value.field-0-is in
    λ s m. at_some (node_scans s nodes c.args.port.node) place (Forms (value_term (heads_of new) c.in-Settled-Value.t)) (each_at s (calls_of nodes) inputs place x at ∙ ap Some (subst (KnownRight s nodes new x) is (c.in_ok-t-in-None.ensures.right s m)))

pub returns-in-Settled-Off-clause-memo : goal.returns-in-Settled-Off-clause-memo
returns-in-Settled-Off-clause-memo c =
    memo_fits_grows (graph_of c.args.g.now).nodes c.args.tags.now c.known_of.new.tags c.in_ok-t-in-None.ensures.goes_on c.args.memo.now c.requires.memo

pub returns-in-Settled-Off-clause-memo_right : goal.returns-in-Settled-Off-clause-memo_right
returns-in-Settled-Off-clause-memo_right c =
    λ s m. memo_right_grows s (graph_of c.args.g.now).nodes c.args.tags.now c.known_of.new.tags c.in_ok-t-in-None.ensures.goes_on c.args.memo.now c.requires.memo m

pub returns-in-Settled-Off-clause-right : goal.returns-in-Settled-Off-clause-right
returns-in-Settled-Off-clause-right c =
    let nodes = (graph_of c.args.g.now).nodes in
    let lawful = nodes_of (graph_of c.args.g.now) c.args.g.now.lawful in
    let lt : c.args.port.node < length nodes = c.requires.port.0 in
    let inputs = (node_at nodes c.args.port.node).inputs in
    let same : c.as_slice.result.now ≡ inputs = c.as_slice.ensures ∙ ap (λ (x : Node). x.inputs) c.node.ensures in
    let place = selector_at (node_at nodes c.args.port.node).what in
    let x = c.index-as_slice-place.result in
    let whole = ap length same in
    let there = selector_within nodes lawful c.args.port.node lt c.requires.selects in
    let at : slice_get inputs place ≡ Some x = slot c.as_slice.result.now inputs c.args.place place x same c.requires.place (omega (arith, whole, there, c.requires.place)) c.index-as_slice-place.is in
    let old = c.args.tags.now in
    let new = c.known_of.new.tags in
    let goes = c.in_ok-t-in-None.ensures.goes_on in
    let is : c.in_ok-t-in-None.field-0 ≡ known.Settled settled.Off = c.in-Settled-Off.is ∙ ap known.Settled c.in-Settled-Off.field-0-is in
    λ s m. selector_ends s nodes lawful c.args.port lt c.requires.selects IsOff (at_some (node_scans s nodes c.args.port.node) place (Ends IsOff) (each_at s (calls_of nodes) inputs place x at ∙ ap Some (subst (KnownRight s nodes new x) is (c.in_ok-t-in-None.ensures.right s m))))

pub returns-in-Settled-Halt-clause-memo : goal.returns-in-Settled-Halt-clause-memo
returns-in-Settled-Halt-clause-memo c =
    memo_fits_grows (graph_of c.args.g.now).nodes c.args.tags.now c.known_of.new.tags c.in_ok-t-in-None.ensures.goes_on c.args.memo.now c.requires.memo

pub returns-in-Settled-Halt-clause-memo_right : goal.returns-in-Settled-Halt-clause-memo_right
returns-in-Settled-Halt-clause-memo_right c =
    λ s m. memo_right_grows s (graph_of c.args.g.now).nodes c.args.tags.now c.known_of.new.tags c.in_ok-t-in-None.ensures.goes_on c.args.memo.now c.requires.memo m

pub returns-in-Settled-Halt-clause-right : goal.returns-in-Settled-Halt-clause-right
returns-in-Settled-Halt-clause-right c =
    let nodes = (graph_of c.args.g.now).nodes in
    let lawful = nodes_of (graph_of c.args.g.now) c.args.g.now.lawful in
    let lt : c.args.port.node < length nodes = c.requires.port.0 in
    let inputs = (node_at nodes c.args.port.node).inputs in
    let same : c.as_slice.result.now ≡ inputs = c.as_slice.ensures ∙ ap (λ (x : Node). x.inputs) c.node.ensures in
    let place = selector_at (node_at nodes c.args.port.node).what in
    let x = c.index-as_slice-place.result in
    let whole = ap length same in
    let there = selector_within nodes lawful c.args.port.node lt c.requires.selects in
    let at : slice_get inputs place ≡ Some x = slot c.as_slice.result.now inputs c.args.place place x same c.requires.place (omega (arith, whole, there, c.requires.place)) c.index-as_slice-place.is in
    let old = c.args.tags.now in
    let new = c.known_of.new.tags in
    let goes = c.in_ok-t-in-None.ensures.goes_on in
    let is : c.in_ok-t-in-None.field-0 ≡ known.Settled (settled.Halt c.in-Settled-Halt.n c.in-Settled-Halt.code) = c.in-Settled-Halt.is ∙ ap known.Settled c.in-Settled-Halt.field-0-is in
    λ s m. selector_ends s nodes lawful c.args.port lt c.requires.selects (Stops (site_of nodes c.in-Settled-Halt.n) c.in-Settled-Halt.code) (at_some (node_scans s nodes c.args.port.node) place (Ends (Stops (site_of nodes c.in-Settled-Halt.n) c.in-Settled-Halt.code)) (each_at s (calls_of nodes) inputs place x at ∙ ap Some (subst (KnownRight s nodes new x) is (c.in_ok-t-in-None.ensures.right s m))))

pub returns-in-Open-clause-memo : goal.returns-in-Open-clause-memo
returns-in-Open-clause-memo c =
    memo_fits_grows (graph_of c.args.g.now).nodes c.args.tags.now c.known_of.new.tags c.in_ok-t-in-None.ensures.goes_on c.args.memo.now c.requires.memo

pub returns-in-Open-clause-memo_right : goal.returns-in-Open-clause-memo_right
returns-in-Open-clause-memo_right c =
    λ s m. memo_right_grows s (graph_of c.args.g.now).nodes c.args.tags.now c.known_of.new.tags c.in_ok-t-in-None.ensures.goes_on c.args.memo.now c.requires.memo m

pub returns-in-Open-clause-fits : goal.returns-in-Open-clause-fits
returns-in-Open-clause-fits c =
    let nodes = (graph_of c.args.g.now).nodes in
    let lawful = nodes_of (graph_of c.args.g.now) c.args.g.now.lawful in
    let lt : c.args.port.node < length nodes = c.requires.port.0 in
    let inputs = (node_at nodes c.args.port.node).inputs in
    let same : c.as_slice.result.now ≡ inputs = c.as_slice.ensures ∙ ap (λ (x : Node). x.inputs) c.node.ensures in
    let place = selector_at (node_at nodes c.args.port.node).what in
    let x = c.index-as_slice-place.result in
    let whole = ap length same in
    let there = selector_within nodes lawful c.args.port.node lt c.requires.selects in
    let at : slice_get inputs place ≡ Some x = slot c.as_slice.result.now inputs c.args.place place x same c.requires.place (omega (arith, whole, there, c.requires.place)) c.index-as_slice-place.is in
    let open_ = subst (KnownFits nodes c.known_of.new.tags (answers_of c.args.memo.now) x) c.in-Open.is c.in_ok-t-in-None.ensures.fits in
    let before = awaited nodes c.args.port.node lt x c.in-Open.awaited open_.0 (takes nodes lawful c.args.port.node lt place x at) in
    λ given. (before.0, before.1, open_.1)

pub returns-in-Open-clause-right : goal.returns-in-Open-clause-right
returns-in-Open-clause-right c =
    let nodes = (graph_of c.args.g.now).nodes in
    let lawful = nodes_of (graph_of c.args.g.now) c.args.g.now.lawful in
    let lt : c.args.port.node < length nodes = c.requires.port.0 in
    let inputs = (node_at nodes c.args.port.node).inputs in
    let same : c.as_slice.result.now ≡ inputs = c.as_slice.ensures ∙ ap (λ (x : Node). x.inputs) c.node.ensures in
    let place = selector_at (node_at nodes c.args.port.node).what in
    let x = c.index-as_slice-place.result in
    let whole = ap length same in
    let there = selector_within nodes lawful c.args.port.node lt c.requires.selects in
    let at : slice_get inputs place ≡ Some x = slot c.as_slice.result.now inputs c.args.place place x same c.requires.place (omega (arith, whole, there, c.requires.place)) c.index-as_slice-place.is in
    let open_ = subst (KnownFits nodes c.known_of.new.tags (answers_of c.args.memo.now) x) c.in-Open.is c.in_ok-t-in-None.ensures.fits in
    λ s m. selector_leads s nodes lawful c.args.port lt c.requires.selects c.in-Open.awaited (at ∙ ap Some open_.0)

pub returns-in-Settled-Value-clause-memo_found : goal.returns-in-Settled-Value-clause-memo_found
returns-in-Settled-Value-clause-memo_found c = λ l m.
    let nodes = (graph_of c.args.g.now).nodes in
    let new = c.known_of.new.tags in
    let goes = c.in_ok-t-in-None.ensures.goes_on in
    let lt : c.args.port.node < length nodes = c.requires.port.0 in
    let is : c.in_ok-t-in-None.field-0 ≡ known.Settled (settled.Value c.in-Settled-Value.t) = c.in-Settled-Value.is ∙ ap known.Settled c.in-Settled-Value.field-0-is in
    let sel : Selects c.args.memo.now c.select.new.self c.args.port.node c.in-Settled-Value.t = (c.select.ensures.selectors, c.select.ensures.answers, c.select.ensures.formed) in
    let within : c.args.port.node < length c.args.memo.now.selectors.items = omega (arith, lt, c.requires.memo.places) in
    let found = subst (KnownFound l new (formed_of c.args.memo.now)) is (c.in_ok-t-in-None.ensures.found l m) in
    select_found l new c.args.memo.now c.select.new.self c.args.port.node c.in-Settled-Value.t sel within found (memo_found_grows nodes c.args.tags.now new goes c.requires.formed.formed l c.args.memo.now c.requires.memo m)

pub returns-in-Settled-Value-clause-found : goal.returns-in-Settled-Value-clause-found
returns-in-Settled-Value-clause-found c = λ l m.
    let new = c.known_of.new.tags in
    let is : c.in_ok-t-in-None.field-0 ≡ known.Settled (settled.Value c.in-Settled-Value.t) = c.in-Settled-Value.is ∙ ap known.Settled c.in-Settled-Value.field-0-is in
    let found = subst (KnownFound l new (formed_of c.args.memo.now)) is (c.in_ok-t-in-None.ensures.found l m) in
    found_as l new (formed_of c.args.memo.now) (formed_of c.select.new.self) (same_firsts c.args.memo.now c.select.new.self c.select.ensures.formed) c.in-Settled-Value.t found

pub returns-in-Settled-Off-clause-memo_found : goal.returns-in-Settled-Off-clause-memo_found
returns-in-Settled-Off-clause-memo_found c = λ l m. memo_found_grows (graph_of c.args.g.now).nodes c.args.tags.now c.known_of.new.tags c.in_ok-t-in-None.ensures.goes_on c.requires.formed.formed l c.args.memo.now c.requires.memo m

pub returns-in-Settled-Halt-clause-memo_found : goal.returns-in-Settled-Halt-clause-memo_found
returns-in-Settled-Halt-clause-memo_found c = λ l m. memo_found_grows (graph_of c.args.g.now).nodes c.args.tags.now c.known_of.new.tags c.in_ok-t-in-None.ensures.goes_on c.requires.formed.formed l c.args.memo.now c.requires.memo m

pub returns-in-Open-clause-memo_found : goal.returns-in-Open-clause-memo_found
returns-in-Open-clause-memo_found c = λ l m. memo_found_grows (graph_of c.args.g.now).nodes c.args.tags.now c.known_of.new.tags c.in_ok-t-in-None.ensures.goes_on c.requires.formed.formed l c.args.memo.now c.requires.memo m

pub returns-in-Some-clause-forms : goal.returns-in-Some-clause-forms
returns-in-Some-clause-forms c = λ s r m.
    let nodes = (graph_of c.args.g.now).nodes in (
      record { toward = toward_itself (port_forms s nodes c.args.port) (formings nodes c.args.tags.now c.args.memo.now); memo = m; arguments = tt },
      m.selectors c.args.port.node c.in-Some.t (sym c.selector.ensures ∙ c.in-Some.is),
    )

pub returns-in-Settled-Value-clause-forms : goal.returns-in-Settled-Value-clause-forms
returns-in-Settled-Value-clause-forms c = λ s r m.
    let nodes = (graph_of c.args.g.now).nodes in
    let lawful = nodes_of (graph_of c.args.g.now) c.args.g.now.lawful in
    let lt : c.args.port.node < length nodes = c.requires.port.0 in
    let inputs = (node_at nodes c.args.port.node).inputs in
    let same : c.as_slice.result.now ≡ inputs = c.as_slice.ensures ∙ ap (λ (x : Node). x.inputs) c.node.ensures in
    let place = selector_at (node_at nodes c.args.port.node).what in
    let x = c.index-as_slice-place.result in
    let whole = ap length same in
    let there = selector_within nodes lawful c.args.port.node lt c.requires.selects in
    let at : slice_get inputs place ≡ Some x = slot c.as_slice.result.now inputs c.args.place place x same c.requires.place (omega (arith, whole, there, c.requires.place)) c.index-as_slice-place.is in
    let old = c.args.tags.now in
    let new = c.known_of.new.tags in
    let goes = c.in_ok-t-in-None.ensures.goes_on in
    let memo = c.args.memo.now in
    let was = formings nodes old memo in
    let now = formings nodes new memo in
    let is : c.in_ok-t-in-None.field-0 ≡ known.Settled (settled.Value c.in-Settled-Value.t) = c.in-Settled-Value.is ∙ ap known.Settled c.in-Settled-Value.field-0-is in
    let sel : Selects memo c.select.new.self c.args.port.node c.in-Settled-Value.t = (c.select.ensures.selectors, c.select.ensures.answers, c.select.ensures.formed) in
    let within : c.args.port.node < length memo.selectors.items = omega (arith, lt, c.requires.memo.places) in
    let k = subst (KnownForms (input_forms s nodes x) was now) is (c.in_ok-t-in-None.ensures.forms s m) in
    let n = selector_next s nodes lawful c.args.port lt c.requires.selects x at was now k in
    let after_select = formings_same nodes new memo c.select.new.self c.select.ensures.formed in (
      record {
        toward = subst (λ z. Toward (port_forms s nodes c.args.port) was z) (sym after_select) n.0;
        memo = select_formed s nodes new memo c.select.new.self c.args.port.node c.in-Settled-Value.t sel within n.1 (memo_formed_grows s nodes old new goes memo n.0.grows m);
        arguments = tt;
      },
      subst (λ z. HasAll z (selector_formed s nodes c.args.port.node)) (sym after_select) n.1,
    )

pub returns-in-Settled-Off-clause-forms : goal.returns-in-Settled-Off-clause-forms
returns-in-Settled-Off-clause-forms c = λ s r m.
    let nodes = (graph_of c.args.g.now).nodes in
    let lawful = nodes_of (graph_of c.args.g.now) c.args.g.now.lawful in
    let lt : c.args.port.node < length nodes = c.requires.port.0 in
    let inputs = (node_at nodes c.args.port.node).inputs in
    let same : c.as_slice.result.now ≡ inputs = c.as_slice.ensures ∙ ap (λ (x : Node). x.inputs) c.node.ensures in
    let place = selector_at (node_at nodes c.args.port.node).what in
    let x = c.index-as_slice-place.result in
    let whole = ap length same in
    let there = selector_within nodes lawful c.args.port.node lt c.requires.selects in
    let at : slice_get inputs place ≡ Some x = slot c.as_slice.result.now inputs c.args.place place x same c.requires.place (omega (arith, whole, there, c.requires.place)) c.index-as_slice-place.is in
    let old = c.args.tags.now in
    let new = c.known_of.new.tags in
    let goes = c.in_ok-t-in-None.ensures.goes_on in
    let memo = c.args.memo.now in
    let was = formings nodes old memo in
    let now = formings nodes new memo in
    let is : c.in_ok-t-in-None.field-0 ≡ known.Settled settled.Off = c.in-Settled-Off.is ∙ ap known.Settled c.in-Settled-Off.field-0-is in
    let k = subst (KnownForms (input_forms s nodes x) was now) is (c.in_ok-t-in-None.ensures.forms s m) in
    let scan = at_some (node_scans s nodes c.args.port.node) place (Ends IsOff) (each_at s (calls_of nodes) inputs place x at ∙ ap Some (subst (KnownRight s nodes new x) is (c.in_ok-t-in-None.ensures.right s r))) in
    let n = selector_next s nodes lawful c.args.port lt c.requires.selects x at was now k in
    let over = selector_over s nodes lawful c.args.port lt c.requires.selects IsOff scan in
    (formation_of s nodes old new goes memo c.args.port 0 n.0 m tt, subst (HasAll now) (sym over) n.1)

pub returns-in-Settled-Halt-clause-forms : goal.returns-in-Settled-Halt-clause-forms
returns-in-Settled-Halt-clause-forms c = λ s r m.
    let nodes = (graph_of c.args.g.now).nodes in
    let lawful = nodes_of (graph_of c.args.g.now) c.args.g.now.lawful in
    let lt : c.args.port.node < length nodes = c.requires.port.0 in
    let inputs = (node_at nodes c.args.port.node).inputs in
    let same : c.as_slice.result.now ≡ inputs = c.as_slice.ensures ∙ ap (λ (x : Node). x.inputs) c.node.ensures in
    let place = selector_at (node_at nodes c.args.port.node).what in
    let x = c.index-as_slice-place.result in
    let whole = ap length same in
    let there = selector_within nodes lawful c.args.port.node lt c.requires.selects in
    let at : slice_get inputs place ≡ Some x = slot c.as_slice.result.now inputs c.args.place place x same c.requires.place (omega (arith, whole, there, c.requires.place)) c.index-as_slice-place.is in
    let old = c.args.tags.now in
    let new = c.known_of.new.tags in
    let goes = c.in_ok-t-in-None.ensures.goes_on in
    let memo = c.args.memo.now in
    let was = formings nodes old memo in
    let now = formings nodes new memo in
    let is : c.in_ok-t-in-None.field-0 ≡ known.Settled (settled.Halt c.in-Settled-Halt.n c.in-Settled-Halt.code) = c.in-Settled-Halt.is ∙ ap known.Settled c.in-Settled-Halt.field-0-is in
    let k = subst (KnownForms (input_forms s nodes x) was now) is (c.in_ok-t-in-None.ensures.forms s m) in
    let scan = at_some (node_scans s nodes c.args.port.node) place (Ends (Stops (site_of nodes c.in-Settled-Halt.n) c.in-Settled-Halt.code)) (each_at s (calls_of nodes) inputs place x at ∙ ap Some (subst (KnownRight s nodes new x) is (c.in_ok-t-in-None.ensures.right s r))) in
    let n = selector_next s nodes lawful c.args.port lt c.requires.selects x at was now k in
    let over = selector_over s nodes lawful c.args.port lt c.requires.selects (Stops (site_of nodes c.in-Settled-Halt.n) c.in-Settled-Halt.code) scan in
    (formation_of s nodes old new goes memo c.args.port 0 n.0 m tt, subst (HasAll now) (sym over) n.1)

pub returns-in-Open-clause-forms : goal.returns-in-Open-clause-forms
returns-in-Open-clause-forms c = λ s r m.
    let nodes = (graph_of c.args.g.now).nodes in
    let lawful = nodes_of (graph_of c.args.g.now) c.args.g.now.lawful in
    let lt : c.args.port.node < length nodes = c.requires.port.0 in
    let inputs = (node_at nodes c.args.port.node).inputs in
    let same : c.as_slice.result.now ≡ inputs = c.as_slice.ensures ∙ ap (λ (x : Node). x.inputs) c.node.ensures in
    let place = selector_at (node_at nodes c.args.port.node).what in
    let x = c.index-as_slice-place.result in
    let whole = ap length same in
    let there = selector_within nodes lawful c.args.port.node lt c.requires.selects in
    let at : slice_get inputs place ≡ Some x = slot c.as_slice.result.now inputs c.args.place place x same c.requires.place (omega (arith, whole, there, c.requires.place)) c.index-as_slice-place.is in
    let old = c.args.tags.now in
    let new = c.known_of.new.tags in
    let goes = c.in_ok-t-in-None.ensures.goes_on in
    let memo = c.args.memo.now in
    let was = formings nodes old memo in
    let now = formings nodes new memo in
    let open_ = subst (KnownFits nodes new (answers_of memo) x) c.in-Open.is c.in_ok-t-in-None.ensures.fits in
    let k = subst (KnownForms (input_forms s nodes x) was now) c.in-Open.is (c.in_ok-t-in-None.ensures.forms s m) in
    let t = toward_same (port_forms s nodes c.args.port) was now k in
    (formation_of s nodes old new goes memo c.args.port 0 t m tt, selector_awaits s nodes lawful c.args.port lt c.requires.selects c.in-Open.awaited (at ∙ ap Some open_.0) now)

pub returns-in-Settled-Value-clause-selected : goal.returns-in-Settled-Value-clause-selected
returns-in-Settled-Value-clause-selected c = λ h.
    let nodes = (graph_of c.args.g.now).nodes in
    let lawful = nodes_of (graph_of c.args.g.now) c.args.g.now.lawful in
    let lt : c.args.port.node < length nodes = c.requires.port.0 in
    let inputs = (node_at nodes c.args.port.node).inputs in
    let same : c.as_slice.result.now ≡ inputs = c.as_slice.ensures ∙ ap (λ (x : Node). x.inputs) c.node.ensures in
    let place = selector_at (node_at nodes c.args.port.node).what in
    let x = c.index-as_slice-place.result in
    let whole = ap length same in
    let there = selector_within nodes lawful c.args.port.node lt c.requires.selects in
    let at : slice_get inputs place ≡ Some x = slot c.as_slice.result.now inputs c.args.place place x same c.requires.place (omega (arith, whole, there, c.requires.place)) c.index-as_slice-place.is in
    let memo = c.args.memo.now in
    let is : c.in_ok-t-in-None.field-0 ≡ known.Settled (settled.Value c.in-Settled-Value.t) = c.in-Settled-Value.is ∙ ap known.Settled c.in-Settled-Value.field-0-is in
    let sel : Selects memo c.select.new.self c.args.port.node c.in-Settled-Value.t = (c.select.ensures.selectors, c.select.ensures.answers, c.select.ensures.formed) in
    let within : c.args.port.node < length memo.selectors.items = omega (arith, lt, c.requires.memo.places) in
    let answers : answers_of c.select.new.self ≡ answers_of memo = λ i q. answers_same memo c.select.new.self c.select.ensures.answers q i in
    select_valued nodes memo c.select.new.self c.args.port.node c.in-Settled-Value.t x sel within answers at (subst (KnownValued (answers_of memo) x) is c.in_ok-t-in-None.ensures.valued) h
