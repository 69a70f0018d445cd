use Rattle.std.proofs.Common.{inr}
use Rattle.dx_demand.specs.Memo.{formed_of}
use Rattle.dx_demand.specs.Found.{AllFound, KnownFound}
use Rattle.dx_demand.proofs.Finding.{kept_itself, all_found_grows, all_found_push, memo_found_grows, form_found, forms_keep, formed_found}
use Rattle.dx_base.specs.Modules.{Takes}
use Rattle.dx_demand.proofs.Taken.{node_takes}
use Rattle.dx_demand.specs.Terms.{MayRead, AreArguments, IsValue}
use Rattle.dx_demand.proofs.Terms.{arguments_on, arguments_push}
use Rattle.std.proofs.Common.{◌≡◌, ◌<◌, ◌∙◌, [], ◌∷◌, ◌++◌, suc, length, Some, None, sym, ap, subst, arith, length-append}
use Rattle.std.specs.Prelude.{slice_get}
use Rattle.dx_graph.specs.declared.node.Node.{Node}
use Rattle.dx_graph.specs.Graph.{node_at}
use Rattle.dx_graph.specs.GraphView.{graph_of}
use Rattle.dx_graph.specs.Unfolding.{calls_of}
use Rattle.dx_tags.specs.Closed.{ResultTerm, CallOf, heads_of, value_term, value_terms}
use Rattle.dx_tags.proofs.Growth.{goes_on_then}
use Rattle.dx_meaning.specs.Scan.{IsOff, Stops, Forms, Ends, all_scanned, call_scanned, with_file}
use Rattle.dx_demand.specs.Memo.{answers_of, site_of, node_scans, input_scan}
use Rattle.dx_demand.specs.Stack.{Begins}
use Rattle.dx_demand.specs.Steps.{KnownFits, KnownRight}
use Rattle.dx_demand.specs.declared.step.Known.TheVariants as known
use Rattle.dx_demand.specs.declared.settled.Settled.TheVariants as settled
use Rattle.dx_demand.proofs.Growing.{memo_fits_grows, memo_right_grows, begins_grows}
use Rattle.dx_demand.proofs.Ports.{each_at, each_length, begins_push, begins_all, begins_stop}
use Rattle.dx_demand.proofs.Leading.{module_leads}
use Rattle.dx_demand.proofs.Memos.{form_fits, form_right}
use Rattle.dx_demand.proofs.PortSteps.{nodes_of, more_itself}
use Rattle.dx_demand.proofs.Taken.{slot, takes, takes_in, awaited}
use Rattle.dx_meaning.specs.Forming.{after, file_forms, call_formed, HasAll}
use Rattle.dx_meaning.proofs.Formed.{all_grow, after_has}
use Rattle.dx_demand.specs.Forming.{KnownForms, formings, input_forms, port_forms, node_forms, first_forms, calls_forms}
use Rattle.dx_demand.proofs.FormedPorts.{argument_next, argument_ends, argument_awaits, arguments_end, first_more, forms_slot, front_grows, toward_then, reaches_grow}
use Rattle.dx_demand.proofs.FormedSteps.{formation_of, toward_same, memo_formed_grows, form_formed, called_as}
use Rattle.dx_demand.specs.Calling.{AreValued, KnownValued}
use Rattle.dx_demand.proofs.Calls.{one_valued, none_valued, module_met}
use Rattle.dx_demand.proofs.step.module_step.Goals as goal

pub known_of-requires-clause-input : goal.known_of-requires-clause-input
known_of-requires-clause-input c =
    let nodes = (graph_of c.args.g.now).nodes in
    let lawful = nodes_of (graph_of c.args.g.now) c.args.g.now.lawful in
    let lt : c.args.port.node < length nodes = c.requires.port.0 in
    let inputs = (node_at nodes c.args.port.node).inputs in
    let same : c.as_slice-inputs.result.now ≡ inputs = c.as_slice-inputs.ensures ∙ ap (λ (x : Node). x.inputs) c.node.ensures in
    let x = c.index-inputs-len.result in
    let here : c.len-in-loop-inputs.result < length c.as_slice-inputs.result.now = omega (arith, c.loop-inputs-test.true, c.len.ensures, c.len-in-loop-inputs.ensures) in
    let at : slice_get inputs (length c.loop-inputs.arguments) ≡ Some x = slot c.as_slice-inputs.result.now inputs c.len-in-loop-inputs.result (length c.loop-inputs.arguments) x same c.len-in-loop-inputs.ensures here c.index-inputs-len.is in
    takes_in nodes c.args.port.node lt x (takes nodes lawful c.args.port.node lt (length c.loop-inputs.arguments) x at)

pub known_of-requires-clause-memo : goal.known_of-requires-clause-memo
known_of-requires-clause-memo c =
    memo_fits_grows (graph_of c.args.g.now).nodes c.args.tags.now c.loop-inputs.tags c.loop-inputs.invariant.goes_on c.args.memo.now c.requires.memo

pub loop-inputs-preserved : goal.loop-inputs-preserved
loop-inputs-preserved c =
    let nodes = (graph_of c.args.g.now).nodes in
    let lawful = nodes_of (graph_of c.args.g.now) c.args.g.now.lawful in
    let lt : c.args.port.node < length nodes = c.requires.port.0 in
    let inputs = (node_at nodes c.args.port.node).inputs in
    let same : c.as_slice-inputs.result.now ≡ inputs = c.as_slice-inputs.ensures ∙ ap (λ (x : Node). x.inputs) c.node.ensures in
    let x = c.index-inputs-len.result in
    let here : c.len-in-loop-inputs.result < length c.as_slice-inputs.result.now = omega (arith, c.loop-inputs-test.true, c.len.ensures, c.len-in-loop-inputs.ensures) in
    let at : slice_get inputs (length c.loop-inputs.arguments) ≡ Some x = slot c.as_slice-inputs.result.now inputs c.len-in-loop-inputs.result (length c.loop-inputs.arguments) x same c.len-in-loop-inputs.ensures here c.index-inputs-len.is in
    let goes = c.in_ok-t.ensures.goes_on in
    let old = c.loop-inputs.tags in
    let new = c.known_of.new.tags in
    let ts = c.loop-inputs.arguments in
    let is : c.in_ok-t.field-0 ≡ known.Settled (settled.Value c.in-Settled-Value.t) = c.in-Settled-Value.is ∙ ap known.Settled c.in-Settled-Value.field-0-is in
    let fits : IsValue new c.in-Settled-Value.t = subst (KnownFits nodes new (answers_of c.args.memo.now) x) is c.in_ok-t.ensures.fits in
    let pushed : c.push.new.self ≡ ts ++ c.in-Settled-Value.t ∷ [] = c.in_ok-push-in-Settled-Value.ensures.ok in
    let before = arguments_on old new goes ts c.loop-inputs.invariant.earlier in
    record {
      file = c.loop-inputs.invariant.file;
      formed = c.in_ok-t.ensures.formed;
      goes_on = goes_on_then c.args.tags.now old new c.loop-inputs.invariant.goes_on goes;
      few = (let long = ap length pushed in let app = length-append ts (c.in-Settled-Value.t ∷ []) in let whole = ap length same in omega (arith, long, app, whole, here, c.len-in-loop-inputs.ensures));
      earlier = subst (AreArguments new) (sym pushed) (arguments_push new ts c.in-Settled-Value.t before fits);
      found = λ l m f.
          let first = formed_of c.args.memo.now in
          subst (AllFound l new first) (sym pushed) (all_found_push l new first ts c.in-Settled-Value.t
          (all_found_grows old new goes l first first (kept_itself first) ts c.loop-inputs.invariant.earlier.earlier (c.loop-inputs.invariant.found l m f))
          (subst (KnownFound l new first) is (c.in_ok-t.ensures.found l (memo_found_grows nodes c.args.tags.now old c.loop-inputs.invariant.goes_on c.requires.formed.formed l c.args.memo.now c.requires.memo m))));
      valued = λ v.
          let answers = answers_of c.args.memo.now in
          let count : length c.push.new.self ≡ suc (length ts) = (let long = ap length pushed in let app = length-append ts (c.in-Settled-Value.t ∷ []) in omega (arith, long, app)) in
          subst (AreValued answers inputs) (sym count) (one_valued answers inputs (length ts) x (c.loop-inputs.invariant.valued v) at (subst (KnownValued answers x) is c.in_ok-t.ensures.valued));
      forms = λ s m b w a h.
          let was = formings nodes c.args.tags.now c.args.memo.now in
          let mid = formings nodes old c.args.memo.now in
          let now = formings nodes new c.args.memo.now in
          let each = node_forms s nodes c.args.port.node in
          let so_far = c.loop-inputs.invariant.forms s m b w a h in
          let middle = memo_formed_grows s nodes c.args.tags.now old c.loop-inputs.invariant.goes_on c.args.memo.now so_far.toward.grows w in
          let begun = c.loop-inputs.invariant.begins s m b in
          let front = front_grows s nodes was mid so_far.toward.grows c.args.port (calls_forms nodes c.args.port c.args.called c.args.file) h in
          let scan : input_scan s nodes x ≡ Forms (value_term (heads_of new) c.in-Settled-Value.t) = subst (KnownRight s nodes new x) is (c.in_ok-t.ensures.right s (memo_right_grows s nodes c.args.tags.now old c.loop-inputs.invariant.goes_on c.args.memo.now c.requires.memo m)) in
          let k = subst (KnownForms (input_forms s nodes x) mid now) is (c.in_ok-t.ensures.forms s middle) in
          let t = argument_next s nodes c.args.port c.args.called c.args.file mid (heads_of old) ts x (value_term (heads_of new) c.in-Settled-Value.t) front so_far.there begun at scan now k in
          let count : length c.push.new.self ≡ suc (length ts) = (let long = ap length pushed in let app = length-append ts (c.in-Settled-Value.t ∷ []) in omega (arith, long, app)) in
          let kept = all_grow mid now t.grows (first_forms (length ts) each) so_far.there in
          let own = subst (λ y. HasAll y (input_forms s nodes x)) (sym k) (after_has (input_forms s nodes x) mid) in
          record {
            toward = toward_then (port_forms s nodes c.args.port) was mid now so_far.toward t;
            there = subst (λ n. HasAll now (first_forms n each)) (sym count) (first_more now (length ts) each (input_forms s nodes x) (forms_slot s (calls_of nodes) inputs (length ts) x at) kept own);
          };
      begins = λ s m b.
          let found : input_scan s nodes x ≡ Forms (value_term (heads_of new) c.in-Settled-Value.t) = subst (KnownRight s nodes new x) is (c.in_ok-t.ensures.right s (memo_right_grows s nodes c.args.tags.now old c.loop-inputs.invariant.goes_on c.args.memo.now c.requires.memo m)) in
          let ss = node_scans s nodes c.args.port.node in
          subst (Begins (heads_of new) ss) (sym pushed) (begins_push (heads_of new) ss ts c.in-Settled-Value.t (begins_grows old new goes ss ts c.loop-inputs.invariant.earlier (c.loop-inputs.invariant.begins s m b)) (each_at s (calls_of nodes) inputs (length ts) x at ∙ ap Some found));
    }

pub returns-in-Settled-Off-clause-earlier : goal.returns-in-Settled-Off-clause-earlier
returns-in-Settled-Off-clause-earlier c =
    arguments_on c.loop-inputs.tags c.known_of.new.tags c.in_ok-t.ensures.goes_on c.loop-inputs.arguments c.loop-inputs.invariant.earlier

pub returns-in-Settled-Off-clause-begins : goal.returns-in-Settled-Off-clause-begins
returns-in-Settled-Off-clause-begins c =
    λ s m b. begins_grows c.loop-inputs.tags c.known_of.new.tags c.in_ok-t.ensures.goes_on (node_scans s (graph_of c.args.g.now).nodes c.args.port.node) c.loop-inputs.arguments c.loop-inputs.invariant.earlier (c.loop-inputs.invariant.begins s m b)

pub returns-in-Settled-Off-clause-right : goal.returns-in-Settled-Off-clause-right
returns-in-Settled-Off-clause-right c =
    let nodes = (graph_of c.args.g.now).nodes in
    let lawful = nodes_of (graph_of c.args.g.now) c.args.g.now.lawful in
    let lt : c.args.port.node < length nodes = c.requires.port.0 in
    let inputs = (node_at nodes c.args.port.node).inputs in
    let same : c.as_slice-inputs.result.now ≡ inputs = c.as_slice-inputs.ensures ∙ ap (λ (x : Node). x.inputs) c.node.ensures in
    let x = c.index-inputs-len.result in
    let here : c.len-in-loop-inputs.result < length c.as_slice-inputs.result.now = omega (arith, c.loop-inputs-test.true, c.len.ensures, c.len-in-loop-inputs.ensures) in
    let at : slice_get inputs (length c.loop-inputs.arguments) ≡ Some x = slot c.as_slice-inputs.result.now inputs c.len-in-loop-inputs.result (length c.loop-inputs.arguments) x same c.len-in-loop-inputs.ensures here c.index-inputs-len.is in
    let goes = c.in_ok-t.ensures.goes_on in
    let old = c.loop-inputs.tags in
    let new = c.known_of.new.tags in
    let ts = c.loop-inputs.arguments in
    let is : c.in_ok-t.field-0 ≡ known.Settled settled.Off = c.in-Settled-Off.is ∙ ap known.Settled c.in-Settled-Off.field-0-is in
    λ s m b h.
    let found : input_scan s nodes x ≡ Ends IsOff = subst (KnownRight s nodes new x) is (c.in_ok-t.ensures.right s (memo_right_grows s nodes c.args.tags.now old c.loop-inputs.invariant.goes_on c.args.memo.now c.requires.memo m)) in
    (h s (more_itself s)).0 ∙ ap (call_scanned c.args.called c.args.file c.args.port.result) (begins_stop (heads_of old) (node_scans s nodes c.args.port.node) ts IsOff (c.loop-inputs.invariant.begins s m b) (each_at s (calls_of nodes) inputs (length ts) x at ∙ ap Some found))

pub returns-in-Settled-Halt-clause-earlier : goal.returns-in-Settled-Halt-clause-earlier
returns-in-Settled-Halt-clause-earlier c =
    arguments_on c.loop-inputs.tags c.known_of.new.tags c.in_ok-t.ensures.goes_on c.loop-inputs.arguments c.loop-inputs.invariant.earlier

pub returns-in-Settled-Halt-clause-begins : goal.returns-in-Settled-Halt-clause-begins
returns-in-Settled-Halt-clause-begins c =
    λ s m b. begins_grows c.loop-inputs.tags c.known_of.new.tags c.in_ok-t.ensures.goes_on (node_scans s (graph_of c.args.g.now).nodes c.args.port.node) c.loop-inputs.arguments c.loop-inputs.invariant.earlier (c.loop-inputs.invariant.begins s m b)

pub returns-in-Settled-Halt-clause-right : goal.returns-in-Settled-Halt-clause-right
returns-in-Settled-Halt-clause-right c =
    let nodes = (graph_of c.args.g.now).nodes in
    let lawful = nodes_of (graph_of c.args.g.now) c.args.g.now.lawful in
    let lt : c.args.port.node < length nodes = c.requires.port.0 in
    let inputs = (node_at nodes c.args.port.node).inputs in
    let same : c.as_slice-inputs.result.now ≡ inputs = c.as_slice-inputs.ensures ∙ ap (λ (x : Node). x.inputs) c.node.ensures in
    let x = c.index-inputs-len.result in
    let here : c.len-in-loop-inputs.result < length c.as_slice-inputs.result.now = omega (arith, c.loop-inputs-test.true, c.len.ensures, c.len-in-loop-inputs.ensures) in
    let at : slice_get inputs (length c.loop-inputs.arguments) ≡ Some x = slot c.as_slice-inputs.result.now inputs c.len-in-loop-inputs.result (length c.loop-inputs.arguments) x same c.len-in-loop-inputs.ensures here c.index-inputs-len.is in
    let goes = c.in_ok-t.ensures.goes_on in
    let old = c.loop-inputs.tags in
    let new = c.known_of.new.tags in
    let ts = c.loop-inputs.arguments in
    let is : c.in_ok-t.field-0 ≡ known.Settled (settled.Halt c.in-Settled-Halt.n c.in-Settled-Halt.code) = c.in-Settled-Halt.is ∙ ap known.Settled c.in-Settled-Halt.field-0-is in
    λ s m b h.
    let found : input_scan s nodes x ≡ Ends (Stops (site_of nodes c.in-Settled-Halt.n) c.in-Settled-Halt.code) = subst (KnownRight s nodes new x) is (c.in_ok-t.ensures.right s (memo_right_grows s nodes c.args.tags.now old c.loop-inputs.invariant.goes_on c.args.memo.now c.requires.memo m)) in
    (h s (more_itself s)).0 ∙ ap (call_scanned c.args.called c.args.file c.args.port.result) (begins_stop (heads_of old) (node_scans s nodes c.args.port.node) ts (Stops (site_of nodes c.in-Settled-Halt.n) c.in-Settled-Halt.code) (c.loop-inputs.invariant.begins s m b) (each_at s (calls_of nodes) inputs (length ts) x at ∙ ap Some found))

pub returns-in-Open-clause-earlier : goal.returns-in-Open-clause-earlier
returns-in-Open-clause-earlier c =
    arguments_on c.loop-inputs.tags c.known_of.new.tags c.in_ok-t.ensures.goes_on c.loop-inputs.arguments c.loop-inputs.invariant.earlier

pub returns-in-Open-clause-begins : goal.returns-in-Open-clause-begins
returns-in-Open-clause-begins c =
    λ s m b. begins_grows c.loop-inputs.tags c.known_of.new.tags c.in_ok-t.ensures.goes_on (node_scans s (graph_of c.args.g.now).nodes c.args.port.node) c.loop-inputs.arguments c.loop-inputs.invariant.earlier (c.loop-inputs.invariant.begins s m b)

pub returns-in-Open-clause-fits : goal.returns-in-Open-clause-fits
returns-in-Open-clause-fits c =
    let nodes = (graph_of c.args.g.now).nodes in
    let lawful = nodes_of (graph_of c.args.g.now) c.args.g.now.lawful in
    let lt : c.args.port.node < length nodes = c.requires.port.0 in
    let inputs = (node_at nodes c.args.port.node).inputs in
    let same : c.as_slice-inputs.result.now ≡ inputs = c.as_slice-inputs.ensures ∙ ap (λ (x : Node). x.inputs) c.node.ensures in
    let x = c.index-inputs-len.result in
    let here : c.len-in-loop-inputs.result < length c.as_slice-inputs.result.now = omega (arith, c.loop-inputs-test.true, c.len.ensures, c.len-in-loop-inputs.ensures) in
    let at : slice_get inputs (length c.loop-inputs.arguments) ≡ Some x = slot c.as_slice-inputs.result.now inputs c.len-in-loop-inputs.result (length c.loop-inputs.arguments) x same c.len-in-loop-inputs.ensures here c.index-inputs-len.is in
    let open_ = subst (KnownFits nodes c.known_of.new.tags (answers_of c.args.memo.now) x) c.in-Open.is c.in_ok-t.ensures.fits in
    let there = awaited nodes c.args.port.node lt x c.in-Open.awaited open_.0 (takes nodes lawful c.args.port.node lt (length c.loop-inputs.arguments) x at) in
    λ given. (there.0, there.1, open_.1)

pub returns-in-Open-clause-right : goal.returns-in-Open-clause-right
returns-in-Open-clause-right c =
    let nodes = (graph_of c.args.g.now).nodes in
    let lawful = nodes_of (graph_of c.args.g.now) c.args.g.now.lawful in
    let lt : c.args.port.node < length nodes = c.requires.port.0 in
    let inputs = (node_at nodes c.args.port.node).inputs in
    let same : c.as_slice-inputs.result.now ≡ inputs = c.as_slice-inputs.ensures ∙ ap (λ (x : Node). x.inputs) c.node.ensures in
    let x = c.index-inputs-len.result in
    let here : c.len-in-loop-inputs.result < length c.as_slice-inputs.result.now = omega (arith, c.loop-inputs-test.true, c.len.ensures, c.len-in-loop-inputs.ensures) in
    let at : slice_get inputs (length c.loop-inputs.arguments) ≡ Some x = slot c.as_slice-inputs.result.now inputs c.len-in-loop-inputs.result (length c.loop-inputs.arguments) x same c.len-in-loop-inputs.ensures here c.index-inputs-len.is in
    let open_ = subst (KnownFits nodes c.known_of.new.tags (answers_of c.args.memo.now) x) c.in-Open.is c.in_ok-t.ensures.fits in
    λ s m b h. module_leads s nodes c.args.port c.args.called c.args.file h (heads_of c.loop-inputs.tags) c.loop-inputs.arguments (c.loop-inputs.invariant.begins s m b) c.in-Open.awaited (at ∙ ap Some open_.0)

pub returns-in-Settled-Off-clause-memo : goal.returns-in-Settled-Off-clause-memo
returns-in-Settled-Off-clause-memo c =
    let goes = goes_on_then c.args.tags.now c.loop-inputs.tags c.known_of.new.tags c.loop-inputs.invariant.goes_on c.in_ok-t.ensures.goes_on in
    memo_fits_grows (graph_of c.args.g.now).nodes c.args.tags.now c.known_of.new.tags goes c.args.memo.now c.requires.memo

pub returns-in-Settled-Off-clause-memo_right : goal.returns-in-Settled-Off-clause-memo_right
returns-in-Settled-Off-clause-memo_right c = λ s m.
    let goes = goes_on_then c.args.tags.now c.loop-inputs.tags c.known_of.new.tags c.loop-inputs.invariant.goes_on c.in_ok-t.ensures.goes_on in
    memo_right_grows s (graph_of c.args.g.now).nodes c.args.tags.now c.known_of.new.tags goes c.args.memo.now c.requires.memo m

pub returns-in-Settled-Halt-clause-memo : goal.returns-in-Settled-Halt-clause-memo
returns-in-Settled-Halt-clause-memo c =
    let goes = goes_on_then c.args.tags.now c.loop-inputs.tags c.known_of.new.tags c.loop-inputs.invariant.goes_on c.in_ok-t.ensures.goes_on in
    memo_fits_grows (graph_of c.args.g.now).nodes c.args.tags.now c.known_of.new.tags goes c.args.memo.now c.requires.memo

pub returns-in-Settled-Halt-clause-memo_right : goal.returns-in-Settled-Halt-clause-memo_right
returns-in-Settled-Halt-clause-memo_right c = λ s m.
    let goes = goes_on_then c.args.tags.now c.loop-inputs.tags c.known_of.new.tags c.loop-inputs.invariant.goes_on c.in_ok-t.ensures.goes_on in
    memo_right_grows s (graph_of c.args.g.now).nodes c.args.tags.now c.known_of.new.tags goes c.args.memo.now c.requires.memo m

pub returns-in-Open-clause-memo : goal.returns-in-Open-clause-memo
returns-in-Open-clause-memo c =
    let goes = goes_on_then c.args.tags.now c.loop-inputs.tags c.known_of.new.tags c.loop-inputs.invariant.goes_on c.in_ok-t.ensures.goes_on in
    memo_fits_grows (graph_of c.args.g.now).nodes c.args.tags.now c.known_of.new.tags goes c.args.memo.now c.requires.memo

pub returns-in-Open-clause-memo_right : goal.returns-in-Open-clause-memo_right
returns-in-Open-clause-memo_right c = λ s m.
    let goes = goes_on_then c.args.tags.now c.loop-inputs.tags c.known_of.new.tags c.loop-inputs.invariant.goes_on c.in_ok-t.ensures.goes_on in
    memo_right_grows s (graph_of c.args.g.now).nodes c.args.tags.now c.known_of.new.tags goes c.args.memo.now c.requires.memo m

pub returns-clause-memo : goal.returns-clause-memo
returns-clause-memo c =
    let nodes = (graph_of c.args.g.now).nodes in
    let new = c.call_of_all.new.tags in
    let goes = goes_on_then c.args.tags.now c.loop-inputs.tags new c.loop-inputs.invariant.goes_on c.in_ok-t-2.ensures.goes_on in
    let old = c.args.memo.now in
    form_fits nodes new old c.call_of_all.new.memo c.in_ok-t-2.t.tag c.args.port.node (c.in_ok-t-2.ensures.first, c.in_ok-t-2.ensures.answers, c.in_ok-t-2.ensures.selectors)
    c.in_ok-t-2.ensures.fits.fits.within c.requires.port.0 (memo_fits_grows nodes c.args.tags.now new goes old c.requires.memo)

pub returns-clause-memo_right : goal.returns-clause-memo_right
returns-clause-memo_right c = λ s m.
    let nodes = (graph_of c.args.g.now).nodes in
    let new = c.call_of_all.new.tags in
    let goes = goes_on_then c.args.tags.now c.loop-inputs.tags new c.loop-inputs.invariant.goes_on c.in_ok-t-2.ensures.goes_on in
    let old = c.args.memo.now in
    form_right s nodes new old c.call_of_all.new.memo c.in_ok-t-2.ensures.answers c.in_ok-t-2.ensures.selectors (memo_right_grows s nodes c.args.tags.now new goes old c.requires.memo m)

pub returns-clause-right : goal.returns-clause-right
returns-clause-right c = λ s m b h.
    let nodes = (graph_of c.args.g.now).nodes in
    let inputs = (node_at nodes c.args.port.node).inputs in
    let same : c.as_slice-inputs.result.now ≡ inputs = c.as_slice-inputs.ensures ∙ ap (λ (x : Node). x.inputs) c.node.ensures in
    let hs = heads_of c.loop-inputs.tags in
    let ts = c.loop-inputs.arguments in
    let ss = node_scans s nodes c.args.port.node in
    let many = each_length s (calls_of nodes) inputs in
    let whole = ap length same in
    let all : all_scanned ss ≡ Forms (value_terms hs ts) = begins_all hs ss ts (c.loop-inputs.invariant.begins s m b) (omega (arith, many, whole, c.loop-inputs-test.false, c.len.ensures)) in
    (h s (more_itself s)).0 ∙ ap (call_scanned c.args.called c.args.file c.args.port.result) all
    ∙ ap Forms (ap (λ us. ResultTerm c.args.port.result (CallOf c.args.called (with_file (value_terms hs us) c.args.file))) (sym c.replace-all.ensures.value) ∙ ap (λ f. ResultTerm c.args.port.result (CallOf c.args.called (with_file (value_terms hs c.replace-all.result) f))) (sym c.loop-inputs.invariant.file) ∙ sym c.in_ok-t-2.ensures.named)

pub call_of_all-requires-clause-takes : goal.call_of_all-requires-clause-takes
call_of_all-requires-clause-takes c =
    let nodes = (graph_of c.args.g.now).nodes in
    let node = nodes_of (graph_of c.args.g.now) c.args.g.now.lawful c.args.port.node c.requires.port.0 in
    let inputs = (node_at nodes c.args.port.node).inputs in
    let same : c.as_slice-inputs.result.now ≡ inputs = c.as_slice-inputs.ensures ∙ ap (λ (x : Node). x.inputs) c.node.ensures in
    let whole = ap length same in
    let count : length c.replace-all.result ≡ length inputs = ap length c.replace-all.ensures.value ∙ omega (arith, whole, c.loop-inputs-test.false, c.len.ensures, c.loop-inputs.invariant.few) in
    subst (Takes c.args.called) (sym count) (node_takes (node_at nodes c.args.port.node).what c.args.called (length inputs) c.requires.what node.enough node.few)

pub call_of_all-requires-clause-reads : goal.call_of_all-requires-clause-reads
call_of_all-requires-clause-reads c = subst (MayRead c.args.called) (sym c.loop-inputs.invariant.file) c.requires.reads

pub returns-in-Settled-Off-clause-memo_found : goal.returns-in-Settled-Off-clause-memo_found
returns-in-Settled-Off-clause-memo_found c = λ l m f.
    let goes = goes_on_then c.args.tags.now c.loop-inputs.tags c.known_of.new.tags c.loop-inputs.invariant.goes_on c.in_ok-t.ensures.goes_on in
    memo_found_grows (graph_of c.args.g.now).nodes c.args.tags.now c.known_of.new.tags goes c.requires.formed.formed l c.args.memo.now c.requires.memo m

pub returns-in-Settled-Off-clause-arguments_found : goal.returns-in-Settled-Off-clause-arguments_found
returns-in-Settled-Off-clause-arguments_found c = λ l m f.
    let first = formed_of c.args.memo.now in
    all_found_grows c.loop-inputs.tags c.known_of.new.tags c.in_ok-t.ensures.goes_on l first first (kept_itself first) c.loop-inputs.arguments c.loop-inputs.invariant.earlier.earlier (c.loop-inputs.invariant.found l m f)

pub returns-in-Settled-Halt-clause-memo_found : goal.returns-in-Settled-Halt-clause-memo_found
returns-in-Settled-Halt-clause-memo_found c = λ l m f.
    let goes = goes_on_then c.args.tags.now c.loop-inputs.tags c.known_of.new.tags c.loop-inputs.invariant.goes_on c.in_ok-t.ensures.goes_on in
    memo_found_grows (graph_of c.args.g.now).nodes c.args.tags.now c.known_of.new.tags goes c.requires.formed.formed l c.args.memo.now c.requires.memo m

pub returns-in-Settled-Halt-clause-arguments_found : goal.returns-in-Settled-Halt-clause-arguments_found
returns-in-Settled-Halt-clause-arguments_found c = λ l m f.
    let first = formed_of c.args.memo.now in
    all_found_grows c.loop-inputs.tags c.known_of.new.tags c.in_ok-t.ensures.goes_on l first first (kept_itself first) c.loop-inputs.arguments c.loop-inputs.invariant.earlier.earlier (c.loop-inputs.invariant.found l m f)

pub returns-in-Open-clause-memo_found : goal.returns-in-Open-clause-memo_found
returns-in-Open-clause-memo_found c = λ l m f.
    let goes = goes_on_then c.args.tags.now c.loop-inputs.tags c.known_of.new.tags c.loop-inputs.invariant.goes_on c.in_ok-t.ensures.goes_on in
    memo_found_grows (graph_of c.args.g.now).nodes c.args.tags.now c.known_of.new.tags goes c.requires.formed.formed l c.args.memo.now c.requires.memo m

pub returns-in-Open-clause-arguments_found : goal.returns-in-Open-clause-arguments_found
returns-in-Open-clause-arguments_found c = λ l m f.
    let first = formed_of c.args.memo.now in
    all_found_grows c.loop-inputs.tags c.known_of.new.tags c.in_ok-t.ensures.goes_on l first first (kept_itself first) c.loop-inputs.arguments c.loop-inputs.invariant.earlier.earlier (c.loop-inputs.invariant.found l m f)

pub returns-clause-first : goal.returns-clause-first
returns-clause-first c = forms_keep c.args.memo.now c.call_of_all.new.memo c.in_ok-t-2.t.tag c.args.port.node c.in_ok-t-2.ensures.first

pub returns-clause-memo_found : goal.returns-clause-memo_found
returns-clause-memo_found c = λ l m f.
    let new = c.call_of_all.new.tags in
    let mid = c.loop-inputs.tags in
    let goes = goes_on_then c.args.tags.now mid new c.loop-inputs.invariant.goes_on c.in_ok-t-2.ensures.goes_on in
    let old = c.args.memo.now in
    let all = subst (AllFound l mid (formed_of old)) (sym c.replace-all.ensures.value) (c.loop-inputs.invariant.found l m f) in
    form_found l new old c.call_of_all.new.memo c.in_ok-t-2.t.tag c.args.port.node (c.in_ok-t-2.ensures.first, c.in_ok-t-2.ensures.answers, c.in_ok-t-2.ensures.selectors)
    (c.in_ok-t-2.ensures.found l all) (memo_found_grows (graph_of c.args.g.now).nodes c.args.tags.now new goes c.requires.formed.formed l old c.requires.memo m)

pub returns-clause-found : goal.returns-clause-found
returns-clause-found c = λ l m f. inr (inr (formed_found (formed_of c.args.memo.now) (formed_of c.call_of_all.new.memo) c.in_ok-t-2.t.tag c.args.port.node c.in_ok-t-2.ensures.first))

pub returns-in-Settled-Off-clause-forms : goal.returns-in-Settled-Off-clause-forms
returns-in-Settled-Off-clause-forms c = λ s m b w a h.
    let nodes = (graph_of c.args.g.now).nodes in
    let lawful = nodes_of (graph_of c.args.g.now) c.args.g.now.lawful in
    let lt : c.args.port.node < length nodes = c.requires.port.0 in
    let inputs = (node_at nodes c.args.port.node).inputs in
    let same : c.as_slice-inputs.result.now ≡ inputs = c.as_slice-inputs.ensures ∙ ap (λ (x : Node). x.inputs) c.node.ensures in
    let x = c.index-inputs-len.result in
    let here : c.len-in-loop-inputs.result < length c.as_slice-inputs.result.now = omega (arith, c.loop-inputs-test.true, c.len.ensures, c.len-in-loop-inputs.ensures) in
    let at : slice_get inputs (length c.loop-inputs.arguments) ≡ Some x = slot c.as_slice-inputs.result.now inputs c.len-in-loop-inputs.result (length c.loop-inputs.arguments) x same c.len-in-loop-inputs.ensures here c.index-inputs-len.is in
    let goes = c.in_ok-t.ensures.goes_on in
    let old = c.loop-inputs.tags in
    let new = c.known_of.new.tags in
    let memo = c.args.memo.now in
    let ts = c.loop-inputs.arguments in
    let was = formings nodes c.args.tags.now memo in
    let mid = formings nodes old memo in
    let now = formings nodes new memo in
    let so_far = c.loop-inputs.invariant.forms s m b w a h in
    let middle = memo_formed_grows s nodes c.args.tags.now old c.loop-inputs.invariant.goes_on memo so_far.toward.grows w in
    let begun = c.loop-inputs.invariant.begins s m b in
    let front = front_grows s nodes was mid so_far.toward.grows c.args.port (calls_forms nodes c.args.port c.args.called c.args.file) h in
    let is : c.in_ok-t.field-0 ≡ known.Settled settled.Off = c.in-Settled-Off.is ∙ ap known.Settled c.in-Settled-Off.field-0-is in
    let scan : input_scan s nodes x ≡ Ends IsOff = subst (KnownRight s nodes new x) is (c.in_ok-t.ensures.right s (memo_right_grows s nodes c.args.tags.now old c.loop-inputs.invariant.goes_on memo c.requires.memo m)) in
    let k = subst (KnownForms (input_forms s nodes x) mid now) is (c.in_ok-t.ensures.forms s middle) in
    let r = argument_ends s nodes c.args.port c.args.called c.args.file mid (heads_of old) ts x IsOff front so_far.there begun at scan now k in
    let whole = toward_then (port_forms s nodes c.args.port) was mid now so_far.toward r.0 in
    (formation_of s nodes c.args.tags.now new (goes_on_then c.args.tags.now old new c.loop-inputs.invariant.goes_on goes) memo c.args.port (length ts) whole w (all_grow mid now r.0.grows (first_forms (length ts) (node_forms s nodes c.args.port.node)) so_far.there), r.1)

pub returns-in-Settled-Halt-clause-forms : goal.returns-in-Settled-Halt-clause-forms
returns-in-Settled-Halt-clause-forms c = λ s m b w a h.
    let nodes = (graph_of c.args.g.now).nodes in
    let lawful = nodes_of (graph_of c.args.g.now) c.args.g.now.lawful in
    let lt : c.args.port.node < length nodes = c.requires.port.0 in
    let inputs = (node_at nodes c.args.port.node).inputs in
    let same : c.as_slice-inputs.result.now ≡ inputs = c.as_slice-inputs.ensures ∙ ap (λ (x : Node). x.inputs) c.node.ensures in
    let x = c.index-inputs-len.result in
    let here : c.len-in-loop-inputs.result < length c.as_slice-inputs.result.now = omega (arith, c.loop-inputs-test.true, c.len.ensures, c.len-in-loop-inputs.ensures) in
    let at : slice_get inputs (length c.loop-inputs.arguments) ≡ Some x = slot c.as_slice-inputs.result.now inputs c.len-in-loop-inputs.result (length c.loop-inputs.arguments) x same c.len-in-loop-inputs.ensures here c.index-inputs-len.is in
    let goes = c.in_ok-t.ensures.goes_on in
    let old = c.loop-inputs.tags in
    let new = c.known_of.new.tags in
    let memo = c.args.memo.now in
    let ts = c.loop-inputs.arguments in
    let was = formings nodes c.args.tags.now memo in
    let mid = formings nodes old memo in
    let now = formings nodes new memo in
    let so_far = c.loop-inputs.invariant.forms s m b w a h in
    let middle = memo_formed_grows s nodes c.args.tags.now old c.loop-inputs.invariant.goes_on memo so_far.toward.grows w in
    let begun = c.loop-inputs.invariant.begins s m b in
    let front = front_grows s nodes was mid so_far.toward.grows c.args.port (calls_forms nodes c.args.port c.args.called c.args.file) h in
    let is : c.in_ok-t.field-0 ≡ known.Settled (settled.Halt c.in-Settled-Halt.n c.in-Settled-Halt.code) = c.in-Settled-Halt.is ∙ ap known.Settled c.in-Settled-Halt.field-0-is in
    let scan : input_scan s nodes x ≡ Ends (Stops (site_of nodes c.in-Settled-Halt.n) c.in-Settled-Halt.code) = subst (KnownRight s nodes new x) is (c.in_ok-t.ensures.right s (memo_right_grows s nodes c.args.tags.now old c.loop-inputs.invariant.goes_on memo c.requires.memo m)) in
    let k = subst (KnownForms (input_forms s nodes x) mid now) is (c.in_ok-t.ensures.forms s middle) in
    let r = argument_ends s nodes c.args.port c.args.called c.args.file mid (heads_of old) ts x (Stops (site_of nodes c.in-Settled-Halt.n) c.in-Settled-Halt.code) front so_far.there begun at scan now k in
    let whole = toward_then (port_forms s nodes c.args.port) was mid now so_far.toward r.0 in
    (formation_of s nodes c.args.tags.now new (goes_on_then c.args.tags.now old new c.loop-inputs.invariant.goes_on goes) memo c.args.port (length ts) whole w (all_grow mid now r.0.grows (first_forms (length ts) (node_forms s nodes c.args.port.node)) so_far.there), r.1)

pub returns-in-Open-clause-forms : goal.returns-in-Open-clause-forms
returns-in-Open-clause-forms c = λ s m b w a h.
    let nodes = (graph_of c.args.g.now).nodes in
    let lawful = nodes_of (graph_of c.args.g.now) c.args.g.now.lawful in
    let lt : c.args.port.node < length nodes = c.requires.port.0 in
    let inputs = (node_at nodes c.args.port.node).inputs in
    let same : c.as_slice-inputs.result.now ≡ inputs = c.as_slice-inputs.ensures ∙ ap (λ (x : Node). x.inputs) c.node.ensures in
    let x = c.index-inputs-len.result in
    let here : c.len-in-loop-inputs.result < length c.as_slice-inputs.result.now = omega (arith, c.loop-inputs-test.true, c.len.ensures, c.len-in-loop-inputs.ensures) in
    let at : slice_get inputs (length c.loop-inputs.arguments) ≡ Some x = slot c.as_slice-inputs.result.now inputs c.len-in-loop-inputs.result (length c.loop-inputs.arguments) x same c.len-in-loop-inputs.ensures here c.index-inputs-len.is in
    let goes = c.in_ok-t.ensures.goes_on in
    let old = c.loop-inputs.tags in
    let new = c.known_of.new.tags in
    let memo = c.args.memo.now in
    let ts = c.loop-inputs.arguments in
    let was = formings nodes c.args.tags.now memo in
    let mid = formings nodes old memo in
    let now = formings nodes new memo in
    let so_far = c.loop-inputs.invariant.forms s m b w a h in
    let middle = memo_formed_grows s nodes c.args.tags.now old c.loop-inputs.invariant.goes_on memo so_far.toward.grows w in
    let begun = c.loop-inputs.invariant.begins s m b in
    let front = front_grows s nodes was mid so_far.toward.grows c.args.port (calls_forms nodes c.args.port c.args.called c.args.file) h in
    let open_ = subst (KnownFits nodes new (answers_of memo) x) c.in-Open.is c.in_ok-t.ensures.fits in
    let k = subst (KnownForms (input_forms s nodes x) mid now) c.in-Open.is (c.in_ok-t.ensures.forms s middle) in
    let t = toward_same (port_forms s nodes c.args.port) mid now k in
    let whole = toward_then (port_forms s nodes c.args.port) was mid now so_far.toward t in (
      formation_of s nodes c.args.tags.now new (goes_on_then c.args.tags.now old new c.loop-inputs.invariant.goes_on goes) memo c.args.port (length ts) whole w (all_grow mid now t.grows (first_forms (length ts) (node_forms s nodes c.args.port.node)) so_far.there),
      reaches_grow s nodes mid now t.grows c.args.port c.in-Open.awaited (argument_awaits s nodes c.args.port c.args.called c.args.file mid (heads_of old) ts c.in-Open.awaited front so_far.there begun (at ∙ ap Some open_.0)),
    )

pub returns-clause-forms : goal.returns-clause-forms
returns-clause-forms c = λ s m b w a h.
    let nodes = (graph_of c.args.g.now).nodes in
    let lawful = nodes_of (graph_of c.args.g.now) c.args.g.now.lawful in
    let lt : c.args.port.node < length nodes = c.requires.port.0 in
    let inputs = (node_at nodes c.args.port.node).inputs in
    let same : c.as_slice-inputs.result.now ≡ inputs = c.as_slice-inputs.ensures ∙ ap (λ (x : Node). x.inputs) c.node.ensures in
    let old = c.loop-inputs.tags in
    let new = c.call_of_all.new.tags in
    let memo = c.args.memo.now in
    let memo' = c.call_of_all.new.memo in
    let ts = c.loop-inputs.arguments in
    let was = formings nodes c.args.tags.now memo in
    let mid = formings nodes old memo in
    let now = formings nodes new memo' in
    let so_far = c.loop-inputs.invariant.forms s m b w a h in
    let middle = memo_formed_grows s nodes c.args.tags.now old c.loop-inputs.invariant.goes_on memo so_far.toward.grows w in
    let begun = c.loop-inputs.invariant.begins s m b in
    let front = front_grows s nodes was mid so_far.toward.grows c.args.port (calls_forms nodes c.args.port c.args.called c.args.file) h in
    let long = ap length same in
    let count : length inputs ≡ length ts = omega (arith, long, c.loop-inputs-test.false, c.len.ensures, c.loop-inputs.invariant.few) in
    let place = (node_at nodes c.args.port.node).place in
    let e : now ≡ after (file_forms c.args.file ++ call_formed place c.args.called c.args.file (value_terms (heads_of old) ts) ∷ []) mid =
    called_as now mid place c.args.called (heads_of old) _ c.args.file _ ts (c.in_ok-t-2.ensures.forms nodes middle.calls) c.loop-inputs.invariant.file c.replace-all.ensures.value in
    let r = arguments_end s nodes c.args.port c.args.called c.args.file mid (heads_of old) ts front so_far.there begun count now e in
    let whole = toward_then (port_forms s nodes c.args.port) was mid now so_far.toward r.0 in
    let goes = goes_on_then c.args.tags.now old new c.loop-inputs.invariant.goes_on c.in_ok-t-2.ensures.goes_on in (
      record {
        toward = whole;
        memo = form_formed s nodes old new c.in_ok-t-2.ensures.goes_on memo memo' c.in_ok-t-2.t.tag c.args.port.node (c.in_ok-t-2.ensures.first, c.in_ok-t-2.ensures.answers, c.in_ok-t-2.ensures.selectors) c.in_ok-t-2.ensures.called r.0.grows middle;
        arguments = subst (λ n. HasAll now (first_forms n (node_forms s nodes c.args.port.node))) (sym (ap length (c.replace-all.ensures.after ∙ c.new.ensures))) tt;
      },
      r.1,
    )

pub returns-clause-valued : goal.returns-clause-valued
returns-clause-valued c = λ v.
    let answers = answers_of c.args.memo.now in
    let inputs = (node_at (graph_of c.args.g.now).nodes c.args.port.node).inputs in
    subst (AreValued answers inputs) (sym (ap length (c.replace-all.ensures.after ∙ c.new.ensures))) (none_valued answers inputs)

pub returns-clause-met : goal.returns-clause-met
returns-clause-met c = λ s v.
    let nodes = (graph_of c.args.g.now).nodes in
    let answers = answers_of c.args.memo.now in
    let inputs = (node_at nodes c.args.port.node).inputs in
    let same : c.as_slice-inputs.result.now ≡ inputs = c.as_slice-inputs.ensures ∙ ap (λ (x : Node). x.inputs) c.node.ensures in
    let long = ap length same in
    let count : length c.loop-inputs.arguments ≡ length inputs = omega (arith, long, c.loop-inputs-test.false, c.len.ensures, c.loop-inputs.invariant.few) in
    module_met s nodes answers c.args.port c.args.called None c.in_ok-t-2.t c.requires.what (subst (AreValued answers inputs) count (c.loop-inputs.invariant.valued v))

pub returns-in_err-t-clause-goes_on : goal.returns-in_err-t-clause-goes_on
returns-in_err-t-clause-goes_on c = goes_on_then c.args.tags.now c.loop-inputs.tags c.known_of.new.tags c.loop-inputs.invariant.goes_on c.known_of.ensures.goes_on

pub returns-in_err-push-in-Settled-Value-clause-goes_on : goal.returns-in_err-push-in-Settled-Value-clause-goes_on
returns-in_err-push-in-Settled-Value-clause-goes_on c = goes_on_then c.args.tags.now c.loop-inputs.tags c.known_of.new.tags c.loop-inputs.invariant.goes_on c.in_ok-t.ensures.goes_on

pub returns-in-Settled-Off-clause-goes_on : goal.returns-in-Settled-Off-clause-goes_on
returns-in-Settled-Off-clause-goes_on c = goes_on_then c.args.tags.now c.loop-inputs.tags c.known_of.new.tags c.loop-inputs.invariant.goes_on c.in_ok-t.ensures.goes_on

pub returns-in-Settled-Halt-clause-goes_on : goal.returns-in-Settled-Halt-clause-goes_on
returns-in-Settled-Halt-clause-goes_on c = goes_on_then c.args.tags.now c.loop-inputs.tags c.known_of.new.tags c.loop-inputs.invariant.goes_on c.in_ok-t.ensures.goes_on

pub returns-in-Open-clause-goes_on : goal.returns-in-Open-clause-goes_on
returns-in-Open-clause-goes_on c = goes_on_then c.args.tags.now c.loop-inputs.tags c.known_of.new.tags c.loop-inputs.invariant.goes_on c.in_ok-t.ensures.goes_on

pub returns-in_err-t-2-clause-goes_on : goal.returns-in_err-t-2-clause-goes_on
returns-in_err-t-2-clause-goes_on c = goes_on_then c.args.tags.now c.loop-inputs.tags c.call_of_all.new.tags c.loop-inputs.invariant.goes_on c.call_of_all.ensures.goes_on

pub returns-clause-goes_on : goal.returns-clause-goes_on
returns-clause-goes_on c = goes_on_then c.args.tags.now c.loop-inputs.tags c.call_of_all.new.tags c.loop-inputs.invariant.goes_on c.in_ok-t-2.ensures.goes_on
