use Rattle.dx_demand.specs.Memo.{FirstNodes, formed_of}
use Rattle.dx_demand.specs.Found.{SettledFound, StepFound, StackFound}
use Rattle.dx_demand.proofs.Finding.{kept_itself, kept_same, same_firsts, settle_found, stack_found_grows, stack_found_split, stack_found_join, opens_found}
use Rattle.std.proofs.Common.{◌≡◌, ◌∙◌, ◌+◌, ◌*◌, ◌<◌, ◌++◌, ◌∷◌, [], List, length, sym, ap, ap₂, subst}
use Rattle.dx_graph.specs.GraphView.{graph_of}
use Rattle.dx_tags.specs.declared.term.ValueTag.{ValueTag}
use Rattle.dx_tags.specs.Closed.{heads_of, value_term}
use Rattle.dx_tags.proofs.Growth.{goes_on_same, goes_on_then}
use Rattle.dx_meaning.specs.Scan.{Needs}
use Rattle.dx_demand.specs.Memo.{Answers, answers_of, with_answer, site_of, shown, SettledFits, port_scan}
use Rattle.dx_demand.specs.Stack.{fresh, bottom, Leads, StackFits, StackRight}
use Rattle.dx_demand.specs.Steps.{StepFits, StepRight, LeftRight}
use Rattle.dx_demand.specs.declared.seen.Frame.{Frame}
use Rattle.dx_demand.proofs.Growing.{links_fit_grows, sees_before}
use Rattle.dx_demand.proofs.Memos.{settle_fits, settle_right, settle_keeps}
use Rattle.dx_demand.proofs.Stacks.{answer_kept, stack_split, stack_join, right_join, left_right, bottom_push, opens_fits, opens_right, opens_bottom, open_ports}
use Rattle.dx_demand.proofs.PortSteps.{with_arguments, top_after, right_after, top_begins, awaits_fits, awaits_right, needs_right, needs_halted, below_fits, below_bottom, last_bottom, same_bottom, settled_less}
use Rattle.dx_graph.specs.Graph.{node_at}
use Rattle.dx_demand.specs.Memo.{input_at}
use Rattle.dx_demand.specs.declared.settled.Port.{Port}
use Rattle.dx_demand.specs.declared.step.Known.TheVariants as known
use Rattle.dx_demand.specs.Calling.{KnownValued, StepMet, MemoMet, StackValued}
use Rattle.dx_demand.proofs.Calls.{settle_met, stack_valued_put, selectors_put, put_valued, valued_split, valued_join, none_valued, opens_valued}
use Rattle.dx_demand.specs.Forming.{formings, port_forms, StepForms, LeftFormed}
use Rattle.dx_demand.proofs.FormedPorts.{toward_itself}
use Rattle.dx_demand.proofs.FormedSteps.{formed_split, opens_formed, settle_formed}
use Rattle.dx_demand.proofs.FormedLoop.{FormedAt, loop_step, loop_settles, loop_awaits, loop_ends, loop_needs, loop_left}
use Rattle.dx_demand.proofs.resolving.settle_port.Goals as goal

pub steps-init : goal.steps-init
steps-init g c =
    let nodes = (graph_of c.args.g.now).nodes in
    let root = c.args.root in
    let answers = answers_of c.args.seen.now.memo in
    let before = c.args.seen.now.stack.items in
    let after = c.top_of-top.new.stack.items in
    let top = c.top_of-top.result in
    record {
      formed = c.requires.formed;
      goes_on = goes_on_same c.args.tags.now;
      memo = c.requires.seen.memo;
      stack = opens_fits nodes c.args.tags.now answers root before after top c.requires.port c.requires.unanswered c.requires.seen.stack c.top_of-top.ensures;
      bottom = opens_bottom root before after top c.top_of-top.ensures;
      kept = λ n t e. e;
      answers = λ q b at. at;
      first = kept_itself (formed_of c.args.seen.now.memo);
      found = λ cl. (cl.memo, opens_found c.args.links.now.links c.args.tags.now (formed_of c.args.seen.now.memo) root before after top cl.stack c.top_of-top.ensures);
      met = λ s sees seen f. (f.memo, f.selectors, opens_valued nodes answers root before after top f.stack c.top_of-top.ensures);
      forms = λ s sees seen f. record { toward = toward_itself (port_forms s nodes root) (formings nodes c.args.tags.now c.args.seen.now.memo); memo = f.memo; stack = opens_formed s nodes (formings nodes c.args.tags.now c.args.seen.now.memo) root before after top f.left c.top_of-top.ensures };
      right = λ s sees seen. (seen.memo, opens_right s nodes c.args.tags.now root before after top seen.left c.top_of-top.ensures);
    }

pub next_step-requires-clause-port : goal.next_step-requires-clause-port
next_step-requires-clause-port g c =
    let nodes = (graph_of c.args.g.now).nodes in
    let told = g.G.Given.told c.args.given.now in
    let root = c.args.root in
    let old = c.steps.tags in
    let fs = c.steps.seen.stack.items in
    let top = c.steps.top in
    let inv = c.steps.invariant in
    let memo1 = c.steps.seen.memo in
    let t = stack_split nodes old (answers_of memo1) fs top inv.stack in
    t.fits.port

pub next_step-requires-clause-formed : goal.next_step-requires-clause-formed
next_step-requires-clause-formed g c =
    c.steps.invariant.formed

pub next_step-requires-clause-memo : goal.next_step-requires-clause-memo
next_step-requires-clause-memo g c =
    c.steps.invariant.memo

pub next_step-requires-clause-links : goal.next_step-requires-clause-links
next_step-requires-clause-links g c =
    links_fit_grows c.args.tags.now c.steps.tags c.steps.invariant.goes_on c.args.links.now.links c.requires.links

pub next_step-requires-clause-few : goal.next_step-requires-clause-few
next_step-requires-clause-few g c =
    let nodes = (graph_of c.args.g.now).nodes in
    let told = g.G.Given.told c.args.given.now in
    let root = c.args.root in
    let old = c.steps.tags in
    let fs = c.steps.seen.stack.items in
    let top = c.steps.top in
    let inv = c.steps.invariant in
    let memo1 = c.steps.seen.memo in
    let t = stack_split nodes old (answers_of memo1) fs top inv.stack in
    t.fits.few

pub next_step-requires-clause-earlier : goal.next_step-requires-clause-earlier
next_step-requires-clause-earlier g c =
    let nodes = (graph_of c.args.g.now).nodes in
    let told = g.G.Given.told c.args.given.now in
    let root = c.args.root in
    let old = c.steps.tags in
    let fs = c.steps.seen.stack.items in
    let top = c.steps.top in
    let inv = c.steps.invariant in
    let memo1 = c.steps.seen.memo in
    let t = stack_split nodes old (answers_of memo1) fs top inv.stack in
    t.fits.earlier

pub returns-in-None-clause-goes_on : goal.returns-in-None-clause-goes_on
returns-in-None-clause-goes_on g c =
    goes_on_then c.args.tags.now c.steps.tags c.next_step.new.tags c.steps.invariant.goes_on c.in_ok-a.ensures.goes_on

pub returns-in-None-clause-seen : goal.returns-in-None-clause-seen
returns-in-None-clause-seen g c =
    let nodes = (graph_of c.args.g.now).nodes in
    let told = g.G.Given.told c.args.given.now in
    let root = c.args.root in
    let old = c.steps.tags in
    let fs = c.steps.seen.stack.items in
    let top = c.steps.top in
    let inv = c.steps.invariant in
    let memo1 = c.steps.seen.memo in
    let mid = c.next_step.new.tags in
    let memo2 = c.next_step.new.memo in
    let args = c.next_step.new.arguments in
    let now = with_arguments top args in
    let goes = c.in_ok-a.ensures.goes_on in
    let same : answers_of memo2 ≡ answers_of memo1 = c.in_ok-a.ensures.answers in
    let there = top_after nodes old mid goes (answers_of memo1) (answers_of memo2) same fs top args c.in_ok-a.ensures.few c.in_ok-a.ensures.earlier inv.stack in
    let a = c.in-Settles.a in
    let memo3 = c.settle.new.self in
    let ok : answers_of memo3 ≡ with_answer (answers_of memo2) top.port a = c.in_ok-settle-in-Settles.ensures.ok in
    let selectors : memo3.selectors ≡ memo2.selectors = c.in_ok-settle-in-Settles.ensures.selectors in
    let first : memo3.formed ≡ memo2.formed = c.in_ok-settle-in-Settles.ensures.formed in
    let fits : SettledFits nodes mid a.settled = subst (StepFits nodes mid told memo2 top.port) c.in-Settles.is c.in_ok-a.ensures.fits in
    let memo_fits = settle_fits nodes mid memo2 memo3 top.port a ok selectors first fits c.in_ok-a.ensures.memo in
    record { memo = memo_fits; stack = subst (StackFits nodes mid (answers_of memo3)) (sym c.in-None.ensures.0) tt }

pub returns-in-None-clause-kept : goal.returns-in-None-clause-kept
returns-in-None-clause-kept g c =
    let nodes = (graph_of c.args.g.now).nodes in
    let told = g.G.Given.told c.args.given.now in
    let root = c.args.root in
    let old = c.steps.tags in
    let fs = c.steps.seen.stack.items in
    let top = c.steps.top in
    let inv = c.steps.invariant in
    let memo1 = c.steps.seen.memo in
    let mid = c.next_step.new.tags in
    let memo2 = c.next_step.new.memo in
    let args = c.next_step.new.arguments in
    let now = with_arguments top args in
    let goes = c.in_ok-a.ensures.goes_on in
    let same : answers_of memo2 ≡ answers_of memo1 = c.in_ok-a.ensures.answers in
    let there = top_after nodes old mid goes (answers_of memo1) (answers_of memo2) same fs top args c.in_ok-a.ensures.few c.in_ok-a.ensures.earlier inv.stack in
    let a = c.in-Settles.a in
    let memo3 = c.settle.new.self in
    let ok : answers_of memo3 ≡ with_answer (answers_of memo2) top.port a = c.in_ok-settle-in-Settles.ensures.ok in
    let selectors : memo3.selectors ≡ memo2.selectors = c.in_ok-settle-in-Settles.ensures.selectors in
    let first : memo3.formed ≡ memo2.formed = c.in_ok-settle-in-Settles.ensures.formed in
    let fits : SettledFits nodes mid a.settled = subst (StepFits nodes mid told memo2 top.port) c.in-Settles.is c.in_ok-a.ensures.fits in
    let memo_fits = settle_fits nodes mid memo2 memo3 top.port a ok selectors first fits c.in_ok-a.ensures.memo in
    λ n t e. settle_keeps memo2 memo3 selectors n t (c.in_ok-a.ensures.kept n t (inv.kept n t e))

pub returns-in-None-clause-answers : goal.returns-in-None-clause-answers
returns-in-None-clause-answers g c =
    let nodes = (graph_of c.args.g.now).nodes in
    let old = c.steps.tags in
    let fs = c.steps.seen.stack.items in
    let top = c.steps.top in
    let inv = c.steps.invariant in
    let memo1 = c.steps.seen.memo in
    let memo2 = c.next_step.new.memo in
    let same : answers_of memo2 ≡ answers_of memo1 = c.in_ok-a.ensures.answers in
    let a = c.in-Settles.a in
    let memo3 = c.settle.new.self in
    let ok : answers_of memo3 ≡ with_answer (answers_of memo2) top.port a = c.in_ok-settle-in-Settles.ensures.ok in
    let open_ = (stack_split nodes old (answers_of memo1) fs top inv.stack).open_ in
    let both : answers_of memo3 ≡ with_answer (answers_of memo1) top.port a = ok ∙ ap (λ (x : Answers). with_answer x top.port a) same in
    λ q b at. ap (λ (x : Answers). x q) both ∙ answer_kept (answers_of memo1) top.port a open_ q b (inv.answers q b at)

pub returns-in-None-clause-fits : goal.returns-in-None-clause-fits
returns-in-None-clause-fits g c =
    let nodes = (graph_of c.args.g.now).nodes in
    let told = g.G.Given.told c.args.given.now in
    let root = c.args.root in
    let old = c.steps.tags in
    let fs = c.steps.seen.stack.items in
    let top = c.steps.top in
    let inv = c.steps.invariant in
    let memo1 = c.steps.seen.memo in
    let mid = c.next_step.new.tags in
    let memo2 = c.next_step.new.memo in
    let args = c.next_step.new.arguments in
    let now = with_arguments top args in
    let goes = c.in_ok-a.ensures.goes_on in
    let same : answers_of memo2 ≡ answers_of memo1 = c.in_ok-a.ensures.answers in
    let there = top_after nodes old mid goes (answers_of memo1) (answers_of memo2) same fs top args c.in_ok-a.ensures.few c.in_ok-a.ensures.earlier inv.stack in
    let a = c.in-Settles.a in
    let memo3 = c.settle.new.self in
    let ok : answers_of memo3 ≡ with_answer (answers_of memo2) top.port a = c.in_ok-settle-in-Settles.ensures.ok in
    let selectors : memo3.selectors ≡ memo2.selectors = c.in_ok-settle-in-Settles.ensures.selectors in
    let first : memo3.formed ≡ memo2.formed = c.in_ok-settle-in-Settles.ensures.formed in
    let fits : SettledFits nodes mid a.settled = subst (StepFits nodes mid told memo2 top.port) c.in-Settles.is c.in_ok-a.ensures.fits in
    let memo_fits = settle_fits nodes mid memo2 memo3 top.port a ok selectors first fits c.in_ok-a.ensures.memo in
    c.resolved.ensures.fits nodes mid told memo3 fits

pub returns-in-None-clause-seen_right : goal.returns-in-None-clause-seen_right
returns-in-None-clause-seen_right g c =
    let nodes = (graph_of c.args.g.now).nodes in
    let told = g.G.Given.told c.args.given.now in
    let root = c.args.root in
    let old = c.steps.tags in
    let fs = c.steps.seen.stack.items in
    let top = c.steps.top in
    let inv = c.steps.invariant in
    let memo1 = c.steps.seen.memo in
    let mid = c.next_step.new.tags in
    let memo2 = c.next_step.new.memo in
    let args = c.next_step.new.arguments in
    let now = with_arguments top args in
    let goes = c.in_ok-a.ensures.goes_on in
    let same : answers_of memo2 ≡ answers_of memo1 = c.in_ok-a.ensures.answers in
    let there = top_after nodes old mid goes (answers_of memo1) (answers_of memo2) same fs top args c.in_ok-a.ensures.few c.in_ok-a.ensures.earlier inv.stack in
    let a = c.in-Settles.a in
    let memo3 = c.settle.new.self in
    let ok : answers_of memo3 ≡ with_answer (answers_of memo2) top.port a = c.in_ok-settle-in-Settles.ensures.ok in
    let selectors : memo3.selectors ≡ memo2.selectors = c.in_ok-settle-in-Settles.ensures.selectors in
    let first : memo3.formed ≡ memo2.formed = c.in_ok-settle-in-Settles.ensures.formed in
    let fits : SettledFits nodes mid a.settled = subst (StepFits nodes mid told memo2 top.port) c.in-Settles.is c.in_ok-a.ensures.fits in
    let memo_fits = settle_fits nodes mid memo2 memo3 top.port a ok selectors first fits c.in_ok-a.ensures.memo in
    λ s sees seen.
    let links = links_fit_grows c.args.tags.now old inv.goes_on c.args.links.now.links c.requires.links in
    let r = inv.right s (sees_before told old mid goes c.args.links.now.links c.args.written.now.files links s sees) seen in
    let memo_right = c.in_ok-a.ensures.memo_right s r.0 in
    let begins = top_begins s nodes old root fs top r.1 in
    let after = right_after s nodes old mid goes (answers_of memo1) root fs top args inv.stack (c.in_ok-a.ensures.begins s r.0 begins) r.1 in
    let stepped = c.in_ok-a.ensures.right s sees r.0 begins in
    let is : port_scan s nodes top.port ≡ shown nodes mid a.settled = subst (StepRight s nodes mid top.port) c.in-Settles.is stepped in
    record { memo = settle_right s nodes mid memo2 memo3 top.port a ok selectors is memo_right; left = subst (LeftRight s nodes mid) (sym c.in-None.ensures.0) tt }

pub returns-in-None-clause-right : goal.returns-in-None-clause-right
returns-in-None-clause-right g c =
    let nodes = (graph_of c.args.g.now).nodes in
    let told = g.G.Given.told c.args.given.now in
    let root = c.args.root in
    let old = c.steps.tags in
    let fs = c.steps.seen.stack.items in
    let top = c.steps.top in
    let inv = c.steps.invariant in
    let memo1 = c.steps.seen.memo in
    let mid = c.next_step.new.tags in
    let memo2 = c.next_step.new.memo in
    let args = c.next_step.new.arguments in
    let now = with_arguments top args in
    let goes = c.in_ok-a.ensures.goes_on in
    let same : answers_of memo2 ≡ answers_of memo1 = c.in_ok-a.ensures.answers in
    let there = top_after nodes old mid goes (answers_of memo1) (answers_of memo2) same fs top args c.in_ok-a.ensures.few c.in_ok-a.ensures.earlier inv.stack in
    let a = c.in-Settles.a in
    let memo3 = c.settle.new.self in
    let ok : answers_of memo3 ≡ with_answer (answers_of memo2) top.port a = c.in_ok-settle-in-Settles.ensures.ok in
    let selectors : memo3.selectors ≡ memo2.selectors = c.in_ok-settle-in-Settles.ensures.selectors in
    let first : memo3.formed ≡ memo2.formed = c.in_ok-settle-in-Settles.ensures.formed in
    let fits : SettledFits nodes mid a.settled = subst (StepFits nodes mid told memo2 top.port) c.in-Settles.is c.in_ok-a.ensures.fits in
    let memo_fits = settle_fits nodes mid memo2 memo3 top.port a ok selectors first fits c.in_ok-a.ensures.memo in
    λ s sees seen.
    let links = links_fit_grows c.args.tags.now old inv.goes_on c.args.links.now.links c.requires.links in
    let r = inv.right s (sees_before told old mid goes c.args.links.now.links c.args.written.now.files links s sees) seen in
    let memo_right = c.in_ok-a.ensures.memo_right s r.0 in
    let begins = top_begins s nodes old root fs top r.1 in
    let after = right_after s nodes old mid goes (answers_of memo1) root fs top args inv.stack (c.in_ok-a.ensures.begins s r.0 begins) r.1 in
    let stepped = c.in_ok-a.ensures.right s sees r.0 begins in
    let is : port_scan s nodes top.port ≡ shown nodes mid a.settled = subst (StepRight s nodes mid top.port) c.in-Settles.is stepped in
    ap (port_scan s nodes) (sym (last_bottom fs top root c.in-None.ensures.1 inv.bottom)) ∙ is ∙ sym (c.resolved.ensures.right nodes mid)

pub steps-preserved-in-Some : goal.steps-preserved-in-Some
steps-preserved-in-Some g c =
    let nodes = (graph_of c.args.g.now).nodes in
    let told = g.G.Given.told c.args.given.now in
    let root = c.args.root in
    let old = c.steps.tags in
    let fs = c.steps.seen.stack.items in
    let top = c.steps.top in
    let inv = c.steps.invariant in
    let memo1 = c.steps.seen.memo in
    let mid = c.next_step.new.tags in
    let memo2 = c.next_step.new.memo in
    let args = c.next_step.new.arguments in
    let now = with_arguments top args in
    let goes = c.in_ok-a.ensures.goes_on in
    let same : answers_of memo2 ≡ answers_of memo1 = c.in_ok-a.ensures.answers in
    let there = top_after nodes old mid goes (answers_of memo1) (answers_of memo2) same fs top args c.in_ok-a.ensures.few c.in_ok-a.ensures.earlier inv.stack in
    let a = c.in-Settles.a in
    let memo3 = c.settle.new.self in
    let ok : answers_of memo3 ≡ with_answer (answers_of memo2) top.port a = c.in_ok-settle-in-Settles.ensures.ok in
    let selectors : memo3.selectors ≡ memo2.selectors = c.in_ok-settle-in-Settles.ensures.selectors in
    let first : memo3.formed ≡ memo2.formed = c.in_ok-settle-in-Settles.ensures.formed in
    let fits : SettledFits nodes mid a.settled = subst (StepFits nodes mid told memo2 top.port) c.in-Settles.is c.in_ok-a.ensures.fits in
    let memo_fits = settle_fits nodes mid memo2 memo3 top.port a ok selectors first fits c.in_ok-a.ensures.memo in
    let below = c.in-Some.below in
    let rest = c.pop_frame.new.stack.items in
    let e : fs ≡ rest ++ below ∷ [] = c.in-Some.ensures in
    record {
      formed = c.in_ok-a.ensures.formed;
      goes_on = goes_on_then c.args.tags.now old mid inv.goes_on goes;
      memo = memo_fits;
      stack = subst (λ (x : Answers). StackFits nodes mid x (rest ++ below ∷ [])) (sym ok) (below_fits nodes mid (answers_of memo2) fs rest now below a e there);
      bottom = below_bottom fs rest top below root e inv.bottom;
      kept = λ n t e. settle_keeps memo2 memo3 selectors n t (c.in_ok-a.ensures.kept n t (inv.kept n t e));
      answers = λ q b at.
          let open_ = (stack_split nodes old (answers_of memo1) fs top inv.stack).open_ in
          let both : answers_of memo3 ≡ with_answer (answers_of memo1) top.port a = ok ∙ ap (λ (x : Answers). with_answer x top.port a) same in
          ap (λ (x : Answers). x q) both ∙ answer_kept (answers_of memo1) top.port a open_ q b (inv.answers q b at);
      first = λ t n at. kept_same memo2 memo3 first t n (c.in_ok-a.ensures.first t n (inv.first t n at));
      found = λ cl.
          let links = c.args.links.now.links in
          let pair = inv.found cl in
          let split = stack_found_split links old (formed_of memo1) fs top pair.1 in
          let kept_memo = c.in_ok-a.ensures.memo_found pair.0 split.1 in
          let kept_args = c.in_ok-a.ensures.arguments_found pair.0 split.1 in
          let stepped = c.in_ok-a.ensures.found pair.0 split.1 in
          let rest_found = stack_found_grows nodes old mid c.in_ok-a.ensures.goes_on links (formed_of memo1) (formed_of memo2) c.in_ok-a.ensures.first (answers_of memo1) fs (stack_split nodes old (answers_of memo1) fs top inv.stack).rest split.0 in
          let answer_found : SettledFound links mid (formed_of memo2) a.settled = subst (StepFound links mid (formed_of memo2)) c.in-Settles.is stepped in
          let memo_found = settle_found links mid memo2 memo3 top.port a ok selectors first answer_found kept_memo in
          (memo_found, subst (StackFound links mid (formed_of memo3)) e (subst (λ (x : FirstNodes). StackFound links mid x fs) (sym (same_firsts memo2 memo3 first)) rest_found));
      met = λ s sees seen f.
          let links = links_fit_grows c.args.tags.now old inv.goes_on c.args.links.now.links c.requires.links in
          let sees_old = sees_before told old mid goes c.args.links.now.links c.args.written.now.files links s sees in
          let r = inv.right s sees_old seen in
          let here = inv.met s sees_old seen f in
          let parts = valued_split nodes (answers_of memo1) fs top here.2 in
          let stepped = c.in_ok-a.ensures.met s sees r.0 parts.1 in
          let taken = c.in_ok-a.ensures.valued parts.1 in
          let chosen = c.in_ok-a.ensures.selected here.1 in
          let own = subst (StepMet s nodes (answers_of memo1) top.port) c.in-Settles.is stepped in
          let open_ = (stack_split nodes old (answers_of memo1) fs top inv.stack).open_ in
          let both : answers_of memo3 ≡ with_answer (answers_of memo1) top.port a = ok ∙ ap (λ (x : Answers). with_answer x top.port a) same in
          let memo_met = subst (MemoMet s nodes) (sym both) (settle_met s nodes (answers_of memo1) top.port a open_ own here.0) in
          let selectors_met = selectors_put nodes memo2 memo3 top.port a (ap (λ (x : Answers). x top.port) same ∙ open_) ok selectors chosen in
          (memo_met, selectors_met, subst (StackValued nodes (answers_of memo3)) e (subst (λ (x : Answers). StackValued nodes x fs) (sym both) (stack_valued_put nodes (answers_of memo1) top.port a open_ fs parts.0)));
      forms = λ s sees seen f.
          let links = links_fit_grows c.args.tags.now old inv.goes_on c.args.links.now.links c.requires.links in
          let sees_old = sees_before told old mid goes c.args.links.now.links c.args.written.now.files links s sees in
          let r = inv.right s sees_old seen in
          let begins = top_begins s nodes old root fs top r.1 in
          let was = formings nodes c.args.tags.now c.args.seen.now.memo in
          let at = inv.forms s sees_old seen f in
          let here = (formed_split s nodes (formings nodes old memo1) root fs top at.stack).1 in
          let stepped = c.in_ok-a.ensures.forms s sees r.0 begins at.memo here.arguments in
          let by = loop_step s nodes was old mid memo1 memo2 root fs top args at stepped.0 in
          let there = subst (StepForms s nodes (formings nodes mid memo2) top.port) c.in-Settles.is stepped.1 in
          loop_settles s nodes was mid memo2 memo3 root fs rest now below a by there ok selectors first e;
      right = λ s sees seen.
          let links = links_fit_grows c.args.tags.now old inv.goes_on c.args.links.now.links c.requires.links in
          let r = inv.right s (sees_before told old mid goes c.args.links.now.links c.args.written.now.files links s sees) seen in
          let memo_right = c.in_ok-a.ensures.memo_right s r.0 in
          let begins = top_begins s nodes old root fs top r.1 in
          let after = right_after s nodes old mid goes (answers_of memo1) root fs top args inv.stack (c.in_ok-a.ensures.begins s r.0 begins) r.1 in
          let stepped = c.in_ok-a.ensures.right s sees r.0 begins in
          let is : port_scan s nodes top.port ≡ shown nodes mid a.settled = subst (StepRight s nodes mid top.port) c.in-Settles.is stepped in
          (settle_right s nodes mid memo2 memo3 top.port a ok selectors is memo_right, subst (StackRight s nodes mid root) e after.0);
    }

pub steps-smaller-in-Some : goal.steps-smaller-in-Some
steps-smaller-in-Some g c =
    let nodes = (graph_of c.args.g.now).nodes in
    let told = g.G.Given.told c.args.given.now in
    let root = c.args.root in
    let old = c.steps.tags in
    let fs = c.steps.seen.stack.items in
    let top = c.steps.top in
    let inv = c.steps.invariant in
    let memo1 = c.steps.seen.memo in
    let mid = c.next_step.new.tags in
    let memo2 = c.next_step.new.memo in
    let args = c.next_step.new.arguments in
    let now = with_arguments top args in
    let goes = c.in_ok-a.ensures.goes_on in
    let same : answers_of memo2 ≡ answers_of memo1 = c.in_ok-a.ensures.answers in
    let there = top_after nodes old mid goes (answers_of memo1) (answers_of memo2) same fs top args c.in_ok-a.ensures.few c.in_ok-a.ensures.earlier inv.stack in
    let a = c.in-Settles.a in
    let memo3 = c.settle.new.self in
    let ok : answers_of memo3 ≡ with_answer (answers_of memo2) top.port a = c.in_ok-settle-in-Settles.ensures.ok in
    let selectors : memo3.selectors ≡ memo2.selectors = c.in_ok-settle-in-Settles.ensures.selectors in
    let first : memo3.formed ≡ memo2.formed = c.in_ok-settle-in-Settles.ensures.formed in
    let fits : SettledFits nodes mid a.settled = subst (StepFits nodes mid told memo2 top.port) c.in-Settles.is c.in_ok-a.ensures.fits in
    let memo_fits = settle_fits nodes mid memo2 memo3 top.port a ok selectors first fits c.in_ok-a.ensures.memo in
    let below = c.in-Some.below in
    let rest = c.pop_frame.new.stack.items in
    let e : fs ≡ rest ++ below ∷ [] = c.in-Some.ensures in
    let t = stack_split nodes old (answers_of memo1) fs top inv.stack in
    let under = stack_split nodes old (answers_of memo1) rest below (subst (StackFits nodes old (answers_of memo1)) e t.rest) in
    let both : answers_of memo3 ≡ with_answer (answers_of memo1) top.port a = ok ∙ ap (λ (x : Answers). with_answer x top.port a) same in
    subst (λ (x : Answers). open_ports x (length nodes) * (length nodes + 1) + below.port.node < open_ports (answers_of memo1) (length nodes) * (length nodes + 1) + top.port.node) (sym both)
    (settled_less nodes (answers_of memo1) top.port a below.port.node t.open_ t.fits.port under.fits.port.0)

pub steps-preserved : goal.steps-preserved
steps-preserved g c =
    let nodes = (graph_of c.args.g.now).nodes in
    let told = g.G.Given.told c.args.given.now in
    let root = c.args.root in
    let old = c.steps.tags in
    let fs = c.steps.seen.stack.items in
    let top = c.steps.top in
    let inv = c.steps.invariant in
    let memo1 = c.steps.seen.memo in
    let mid = c.next_step.new.tags in
    let memo2 = c.next_step.new.memo in
    let args = c.next_step.new.arguments in
    let now = with_arguments top args in
    let goes = c.in_ok-a.ensures.goes_on in
    let same : answers_of memo2 ≡ answers_of memo1 = c.in_ok-a.ensures.answers in
    let there = top_after nodes old mid goes (answers_of memo1) (answers_of memo2) same fs top args c.in_ok-a.ensures.few c.in_ok-a.ensures.earlier inv.stack in
    let q = c.in-Awaits.port in
    let fit = subst (StepFits nodes mid told memo2 top.port) c.in-Awaits.is c.in_ok-a.ensures.fits in
    let next = c.replace.new.dest in
    let fresh_next : next ≡ fresh q = c.replace.ensures.after ∙ ap (λ (ts : List ValueTag). with_arguments (fresh q) ts) c.new.ensures in
    let pushed : c.push_frame.new.stack.items ≡ fs ++ now ∷ [] = c.in_ok-push_frame-in-Awaits.ensures ∙ ap (λ (f : Frame). fs ++ f ∷ []) c.replace.ensures.value in
    let chain : (fs ++ now ∷ []) ++ fresh q ∷ [] ≡ c.push_frame.new.stack.items ++ next ∷ [] = ap₂ (λ (xs : List Frame) (f : Frame). xs ++ f ∷ []) (sym pushed) (sym fresh_next) in
    record {
      formed = c.in_ok-a.ensures.formed;
      goes_on = goes_on_then c.args.tags.now old mid inv.goes_on goes;
      memo = c.in_ok-a.ensures.memo;
      stack = subst (StackFits nodes mid (answers_of memo2)) chain (awaits_fits nodes mid (answers_of memo2) fs now q there fit.0 fit.1 fit.2);
      bottom = ap₂ bottom pushed fresh_next ∙ bottom_push fs now (fresh q) ∙ same_bottom fs top args ∙ inv.bottom;
      kept = λ n t e. c.in_ok-a.ensures.kept n t (inv.kept n t e);
      answers = λ q b at. ap (λ (x : Answers). x q) same ∙ inv.answers q b at;
      first = λ t n at. c.in_ok-a.ensures.first t n (inv.first t n at);
      found = λ cl.
          let links = c.args.links.now.links in
          let pair = inv.found cl in
          let split = stack_found_split links old (formed_of memo1) fs top pair.1 in
          let kept_memo = c.in_ok-a.ensures.memo_found pair.0 split.1 in
          let kept_args = c.in_ok-a.ensures.arguments_found pair.0 split.1 in
          let stepped = c.in_ok-a.ensures.found pair.0 split.1 in
          let rest_found = stack_found_grows nodes old mid c.in_ok-a.ensures.goes_on links (formed_of memo1) (formed_of memo2) c.in_ok-a.ensures.first (answers_of memo1) fs (stack_split nodes old (answers_of memo1) fs top inv.stack).rest split.0 in
          (kept_memo, subst (StackFound links mid (formed_of memo2)) chain (stack_found_join links mid (formed_of memo2) (fs ++ now ∷ []) (fresh q) (stack_found_join links mid (formed_of memo2) fs now rest_found kept_args) tt));
      met = λ s sees seen f.
          let links = links_fit_grows c.args.tags.now old inv.goes_on c.args.links.now.links c.requires.links in
          let sees_old = sees_before told old mid goes c.args.links.now.links c.args.written.now.files links s sees in
          let r = inv.right s sees_old seen in
          let here = inv.met s sees_old seen f in
          let parts = valued_split nodes (answers_of memo1) fs top here.2 in
          let stepped = c.in_ok-a.ensures.met s sees r.0 parts.1 in
          let taken = c.in_ok-a.ensures.valued parts.1 in
          let chosen = c.in_ok-a.ensures.selected here.1 in
          let joined = valued_join nodes (answers_of memo1) (fs ++ now ∷ []) (fresh q) (valued_join nodes (answers_of memo1) fs now parts.0 taken) (none_valued (answers_of memo1) (node_at nodes q.node).inputs) in
          (subst (MemoMet s nodes) (sym same) here.0, chosen, subst (StackValued nodes (answers_of memo2)) chain (subst (λ (x : Answers). StackValued nodes x ((fs ++ now ∷ []) ++ fresh q ∷ [])) (sym same) joined));
      forms = λ s sees seen f.
          let links = links_fit_grows c.args.tags.now old inv.goes_on c.args.links.now.links c.requires.links in
          let sees_old = sees_before told old mid goes c.args.links.now.links c.args.written.now.files links s sees in
          let r = inv.right s sees_old seen in
          let begins = top_begins s nodes old root fs top r.1 in
          let was = formings nodes c.args.tags.now c.args.seen.now.memo in
          let at = inv.forms s sees_old seen f in
          let here = (formed_split s nodes (formings nodes old memo1) root fs top at.stack).1 in
          let stepped = c.in_ok-a.ensures.forms s sees r.0 begins at.memo here.arguments in
          let by = loop_step s nodes was old mid memo1 memo2 root fs top args at stepped.0 in
          let leads : Leads s nodes top.port q = subst (StepRight s nodes mid top.port) c.in-Awaits.is (c.in_ok-a.ensures.right s sees r.0 begins) in
          let reaches = subst (StepForms s nodes (formings nodes mid memo2) top.port) c.in-Awaits.is stepped.1 in
          subst (FormedAt s nodes was mid memo2 root) chain (loop_awaits s nodes was mid memo2 root fs now q by leads reaches);
      right = λ s sees seen.
          let links = links_fit_grows c.args.tags.now old inv.goes_on c.args.links.now.links c.requires.links in
          let r = inv.right s (sees_before told old mid goes c.args.links.now.links c.args.written.now.files links s sees) seen in
          let memo_right = c.in_ok-a.ensures.memo_right s r.0 in
          let begins = top_begins s nodes old root fs top r.1 in
          let after = right_after s nodes old mid goes (answers_of memo1) root fs top args inv.stack (c.in_ok-a.ensures.begins s r.0 begins) r.1 in
          let stepped = c.in_ok-a.ensures.right s sees r.0 begins in
          let leads : Leads s nodes top.port q = subst (StepRight s nodes mid top.port) c.in-Awaits.is stepped in
          (memo_right, subst (StackRight s nodes mid root) chain (awaits_right s nodes mid root fs now q after leads));
    }

pub returns-in-Needs-clause-goes_on : goal.returns-in-Needs-clause-goes_on
returns-in-Needs-clause-goes_on g c =
    goes_on_then c.args.tags.now c.steps.tags c.next_step.new.tags c.steps.invariant.goes_on c.in_ok-a.ensures.goes_on

pub returns-in-Needs-clause-seen : goal.returns-in-Needs-clause-seen
returns-in-Needs-clause-seen g c =
    let nodes = (graph_of c.args.g.now).nodes in
    let told = g.G.Given.told c.args.given.now in
    let root = c.args.root in
    let old = c.steps.tags in
    let fs = c.steps.seen.stack.items in
    let top = c.steps.top in
    let inv = c.steps.invariant in
    let memo1 = c.steps.seen.memo in
    let mid = c.next_step.new.tags in
    let memo2 = c.next_step.new.memo in
    let args = c.next_step.new.arguments in
    let now = with_arguments top args in
    let goes = c.in_ok-a.ensures.goes_on in
    let same : answers_of memo2 ≡ answers_of memo1 = c.in_ok-a.ensures.answers in
    let there = top_after nodes old mid goes (answers_of memo1) (answers_of memo2) same fs top args c.in_ok-a.ensures.few c.in_ok-a.ensures.earlier inv.stack in
    let pushed : c.push_frame-in-Needs.new.stack.items ≡ fs ++ now ∷ [] = c.in_ok-push_frame-in-Needs.ensures in
    record { memo = c.in_ok-a.ensures.memo; stack = subst (StackFits nodes mid (answers_of memo2)) (sym pushed) (stack_join nodes mid (answers_of memo2) fs now there) }

pub returns-in-Needs-clause-kept : goal.returns-in-Needs-clause-kept
returns-in-Needs-clause-kept g c =
    λ n t e. c.in_ok-a.ensures.kept n t (c.steps.invariant.kept n t e)

pub returns-in-Needs-clause-answers : goal.returns-in-Needs-clause-answers
returns-in-Needs-clause-answers g c =
    λ q b at. ap (λ (x : Answers). x q) c.in_ok-a.ensures.answers ∙ c.steps.invariant.answers q b at

pub returns-in-Needs-clause-seen_right : goal.returns-in-Needs-clause-seen_right
returns-in-Needs-clause-seen_right g c =
    let nodes = (graph_of c.args.g.now).nodes in
    let told = g.G.Given.told c.args.given.now in
    let root = c.args.root in
    let old = c.steps.tags in
    let fs = c.steps.seen.stack.items in
    let top = c.steps.top in
    let inv = c.steps.invariant in
    let memo1 = c.steps.seen.memo in
    let mid = c.next_step.new.tags in
    let memo2 = c.next_step.new.memo in
    let args = c.next_step.new.arguments in
    let now = with_arguments top args in
    let goes = c.in_ok-a.ensures.goes_on in
    let same : answers_of memo2 ≡ answers_of memo1 = c.in_ok-a.ensures.answers in
    let there = top_after nodes old mid goes (answers_of memo1) (answers_of memo2) same fs top args c.in_ok-a.ensures.few c.in_ok-a.ensures.earlier inv.stack in
    let pushed : c.push_frame-in-Needs.new.stack.items ≡ fs ++ now ∷ [] = c.in_ok-push_frame-in-Needs.ensures in
    λ s sees seen.
    let links = links_fit_grows c.args.tags.now old inv.goes_on c.args.links.now.links c.requires.links in
    let r = inv.right s (sees_before told old mid goes c.args.links.now.links c.args.written.now.files links s sees) seen in
    let memo_right = c.in_ok-a.ensures.memo_right s r.0 in
    let begins = top_begins s nodes old root fs top r.1 in
    let after = right_after s nodes old mid goes (answers_of memo1) root fs top args inv.stack (c.in_ok-a.ensures.begins s r.0 begins) r.1 in
    let stepped = c.in_ok-a.ensures.right s sees r.0 begins in
    record { memo = memo_right; left = subst (LeftRight s nodes mid) (sym pushed) (left_right s nodes mid root fs now (same_bottom fs top args ∙ inv.bottom) (right_join s nodes mid root fs now after.0 after.1)) }

pub returns-in-Needs-clause-right : goal.returns-in-Needs-clause-right
returns-in-Needs-clause-right g c =
    let nodes = (graph_of c.args.g.now).nodes in
    let told = g.G.Given.told c.args.given.now in
    let root = c.args.root in
    let old = c.steps.tags in
    let fs = c.steps.seen.stack.items in
    let top = c.steps.top in
    let inv = c.steps.invariant in
    let memo1 = c.steps.seen.memo in
    let mid = c.next_step.new.tags in
    let memo2 = c.next_step.new.memo in
    let args = c.next_step.new.arguments in
    let now = with_arguments top args in
    let goes = c.in_ok-a.ensures.goes_on in
    let same : answers_of memo2 ≡ answers_of memo1 = c.in_ok-a.ensures.answers in
    let there = top_after nodes old mid goes (answers_of memo1) (answers_of memo2) same fs top args c.in_ok-a.ensures.few c.in_ok-a.ensures.earlier inv.stack in
    λ s sees seen.
    let links = links_fit_grows c.args.tags.now old inv.goes_on c.args.links.now.links c.requires.links in
    let r = inv.right s (sees_before told old mid goes c.args.links.now.links c.args.written.now.files links s sees) seen in
    let memo_right = c.in_ok-a.ensures.memo_right s r.0 in
    let begins = top_begins s nodes old root fs top r.1 in
    let after = right_after s nodes old mid goes (answers_of memo1) root fs top args inv.stack (c.in_ok-a.ensures.begins s r.0 begins) r.1 in
    let stepped = c.in_ok-a.ensures.right s sees r.0 begins in
    let needs = Needs (site_of nodes top.port.node) (value_term (heads_of mid) c.in-Needs.t) in
    needs_right s nodes mid root now needs after.1 (subst (StepRight s nodes mid top.port) c.in-Needs.is stepped).0

pub returns-in-Needs-clause-halted : goal.returns-in-Needs-clause-halted
returns-in-Needs-clause-halted g c =
    let nodes = (graph_of c.args.g.now).nodes in
    let told = g.G.Given.told c.args.given.now in
    let root = c.args.root in
    let old = c.steps.tags in
    let fs = c.steps.seen.stack.items in
    let top = c.steps.top in
    let inv = c.steps.invariant in
    let memo1 = c.steps.seen.memo in
    let mid = c.next_step.new.tags in
    let memo2 = c.next_step.new.memo in
    let args = c.next_step.new.arguments in
    let now = with_arguments top args in
    let goes = c.in_ok-a.ensures.goes_on in
    λ s sees seen.
    let links = links_fit_grows c.args.tags.now old inv.goes_on c.args.links.now.links c.requires.links in
    let r = inv.right s (sees_before told old mid goes c.args.links.now.links c.args.written.now.files links s sees) seen in
    let begins = top_begins s nodes old root fs top r.1 in
    let after = right_after s nodes old mid goes (answers_of memo1) root fs top args inv.stack (c.in_ok-a.ensures.begins s r.0 begins) r.1 in
    let stepped = c.in_ok-a.ensures.right s sees r.0 begins in
    let needs = Needs (site_of nodes top.port.node) (value_term (heads_of mid) c.in-Needs.t) in
    let at_top = subst (StepRight s nodes mid top.port) c.in-Needs.is stepped in
    needs_halted s nodes mid root now needs after.1 at_top.0 ∙ at_top.1

pub returns-in-None-clause-halted : goal.returns-in-None-clause-halted
returns-in-None-clause-halted g c = λ s sees seen. c.resolved.ensures.halts s (graph_of c.args.g.now).nodes (input_at c.args.root)

pub returns-in-None-clause-closed : goal.returns-in-None-clause-closed
returns-in-None-clause-closed g c = λ cl.
    let nodes = (graph_of c.args.g.now).nodes in
    let links = c.args.links.now.links in
    let old = c.steps.tags in
    let fs = c.steps.seen.stack.items in
    let top = c.steps.top in
    let inv = c.steps.invariant in
    let memo1 = c.steps.seen.memo in
    let mid = c.next_step.new.tags in
    let memo2 = c.next_step.new.memo in
    let args = c.next_step.new.arguments in
    let now = with_arguments top args in
    let a = c.in-Settles.a in
    let memo3 = c.settle.new.self in
    let ok : answers_of memo3 ≡ with_answer (answers_of memo2) top.port a = c.in_ok-settle-in-Settles.ensures.ok in
    let selectors : memo3.selectors ≡ memo2.selectors = c.in_ok-settle-in-Settles.ensures.selectors in
    let first : memo3.formed ≡ memo2.formed = c.in_ok-settle-in-Settles.ensures.formed in
    let pair = inv.found cl in
    let split = stack_found_split links old (formed_of memo1) fs top pair.1 in
    let kept_memo = c.in_ok-a.ensures.memo_found pair.0 split.1 in
    let kept_args = c.in_ok-a.ensures.arguments_found pair.0 split.1 in
    let stepped = c.in_ok-a.ensures.found pair.0 split.1 in
    let rest_found = stack_found_grows nodes old mid c.in_ok-a.ensures.goes_on links (formed_of memo1) (formed_of memo2) c.in_ok-a.ensures.first (answers_of memo1) fs (stack_split nodes old (answers_of memo1) fs top inv.stack).rest split.0 in
    let answer_found : SettledFound links mid (formed_of memo2) a.settled = subst (StepFound links mid (formed_of memo2)) c.in-Settles.is stepped in
    let memo_found = settle_found links mid memo2 memo3 top.port a ok selectors first answer_found kept_memo in
    record { memo = memo_found; stack = subst (StackFound links mid (formed_of memo3)) (sym c.in-None.ensures.0) tt }

pub returns-in-None-clause-found : goal.returns-in-None-clause-found
returns-in-None-clause-found g c = λ cl.
    let nodes = (graph_of c.args.g.now).nodes in
    let links = c.args.links.now.links in
    let old = c.steps.tags in
    let fs = c.steps.seen.stack.items in
    let top = c.steps.top in
    let inv = c.steps.invariant in
    let memo1 = c.steps.seen.memo in
    let mid = c.next_step.new.tags in
    let memo2 = c.next_step.new.memo in
    let args = c.next_step.new.arguments in
    let now = with_arguments top args in
    let a = c.in-Settles.a in
    let memo3 = c.settle.new.self in
    let ok : answers_of memo3 ≡ with_answer (answers_of memo2) top.port a = c.in_ok-settle-in-Settles.ensures.ok in
    let selectors : memo3.selectors ≡ memo2.selectors = c.in_ok-settle-in-Settles.ensures.selectors in
    let first : memo3.formed ≡ memo2.formed = c.in_ok-settle-in-Settles.ensures.formed in
    let pair = inv.found cl in
    let split = stack_found_split links old (formed_of memo1) fs top pair.1 in
    let kept_memo = c.in_ok-a.ensures.memo_found pair.0 split.1 in
    let kept_args = c.in_ok-a.ensures.arguments_found pair.0 split.1 in
    let stepped = c.in_ok-a.ensures.found pair.0 split.1 in
    let rest_found = stack_found_grows nodes old mid c.in_ok-a.ensures.goes_on links (formed_of memo1) (formed_of memo2) c.in_ok-a.ensures.first (answers_of memo1) fs (stack_split nodes old (answers_of memo1) fs top inv.stack).rest split.0 in
    let answer_found : SettledFound links mid (formed_of memo2) a.settled = subst (StepFound links mid (formed_of memo2)) c.in-Settles.is stepped in
    let memo_found = settle_found links mid memo2 memo3 top.port a ok selectors first answer_found kept_memo in
    c.resolved.ensures.found links mid (formed_of memo3) (subst (λ (x : FirstNodes). SettledFound links mid x a.settled) (sym (same_firsts memo2 memo3 first)) answer_found)

pub returns-in-None-clause-first : goal.returns-in-None-clause-first
returns-in-None-clause-first g c = λ t n at.
    kept_same c.next_step.new.memo c.settle.new.self c.in_ok-settle-in-Settles.ensures.formed t n (c.in_ok-a.ensures.first t n (c.steps.invariant.first t n at))

pub returns-in-Needs-clause-closed : goal.returns-in-Needs-clause-closed
returns-in-Needs-clause-closed g c = λ cl.
    let nodes = (graph_of c.args.g.now).nodes in
    let links = c.args.links.now.links in
    let old = c.steps.tags in
    let fs = c.steps.seen.stack.items in
    let top = c.steps.top in
    let inv = c.steps.invariant in
    let memo1 = c.steps.seen.memo in
    let mid = c.next_step.new.tags in
    let memo2 = c.next_step.new.memo in
    let args = c.next_step.new.arguments in
    let now = with_arguments top args in
    let pair = inv.found cl in
    let split = stack_found_split links old (formed_of memo1) fs top pair.1 in
    let kept_memo = c.in_ok-a.ensures.memo_found pair.0 split.1 in
    let kept_args = c.in_ok-a.ensures.arguments_found pair.0 split.1 in
    let stepped = c.in_ok-a.ensures.found pair.0 split.1 in
    let rest_found = stack_found_grows nodes old mid c.in_ok-a.ensures.goes_on links (formed_of memo1) (formed_of memo2) c.in_ok-a.ensures.first (answers_of memo1) fs (stack_split nodes old (answers_of memo1) fs top inv.stack).rest split.0 in
    let pushed : c.push_frame-in-Needs.new.stack.items ≡ fs ++ now ∷ [] = c.in_ok-push_frame-in-Needs.ensures in
    record { memo = kept_memo; stack = subst (StackFound links mid (formed_of memo2)) (sym pushed) (stack_found_join links mid (formed_of memo2) fs now rest_found kept_args) }

pub returns-in-Needs-clause-found : goal.returns-in-Needs-clause-found
returns-in-Needs-clause-found g c = λ cl.
    let nodes = (graph_of c.args.g.now).nodes in
    let links = c.args.links.now.links in
    let old = c.steps.tags in
    let fs = c.steps.seen.stack.items in
    let top = c.steps.top in
    let inv = c.steps.invariant in
    let memo1 = c.steps.seen.memo in
    let mid = c.next_step.new.tags in
    let memo2 = c.next_step.new.memo in
    let args = c.next_step.new.arguments in
    let now = with_arguments top args in
    let pair = inv.found cl in
    let split = stack_found_split links old (formed_of memo1) fs top pair.1 in
    let kept_memo = c.in_ok-a.ensures.memo_found pair.0 split.1 in
    let kept_args = c.in_ok-a.ensures.arguments_found pair.0 split.1 in
    let stepped = c.in_ok-a.ensures.found pair.0 split.1 in
    let rest_found = stack_found_grows nodes old mid c.in_ok-a.ensures.goes_on links (formed_of memo1) (formed_of memo2) c.in_ok-a.ensures.first (answers_of memo1) fs (stack_split nodes old (answers_of memo1) fs top inv.stack).rest split.0 in
    subst (StepFound links mid (formed_of memo2)) c.in-Needs.is stepped

pub returns-in-Needs-clause-first : goal.returns-in-Needs-clause-first
returns-in-Needs-clause-first g c = λ t n at. c.in_ok-a.ensures.first t n (c.steps.invariant.first t n at)

pub returns-in-None-clause-seen_formed : goal.returns-in-None-clause-seen_formed
returns-in-None-clause-seen_formed g c =
    let nodes = (graph_of c.args.g.now).nodes in
    let told = g.G.Given.told c.args.given.now in
    let root = c.args.root in
    let old = c.steps.tags in
    let fs = c.steps.seen.stack.items in
    let top = c.steps.top in
    let inv = c.steps.invariant in
    let memo1 = c.steps.seen.memo in
    let mid = c.next_step.new.tags in
    let memo2 = c.next_step.new.memo in
    let args = c.next_step.new.arguments in
    let now = with_arguments top args in
    let goes = c.in_ok-a.ensures.goes_on in
    let same : answers_of memo2 ≡ answers_of memo1 = c.in_ok-a.ensures.answers in
    let there = top_after nodes old mid goes (answers_of memo1) (answers_of memo2) same fs top args c.in_ok-a.ensures.few c.in_ok-a.ensures.earlier inv.stack in
    let a = c.in-Settles.a in
    let memo3 = c.settle.new.self in
    let ok : answers_of memo3 ≡ with_answer (answers_of memo2) top.port a = c.in_ok-settle-in-Settles.ensures.ok in
    let selectors : memo3.selectors ≡ memo2.selectors = c.in_ok-settle-in-Settles.ensures.selectors in
    let first : memo3.formed ≡ memo2.formed = c.in_ok-settle-in-Settles.ensures.formed in
    let fits : SettledFits nodes mid a.settled = subst (StepFits nodes mid told memo2 top.port) c.in-Settles.is c.in_ok-a.ensures.fits in
    let memo_fits = settle_fits nodes mid memo2 memo3 top.port a ok selectors first fits c.in_ok-a.ensures.memo in
    λ s sees seen f.
    let links = links_fit_grows c.args.tags.now old inv.goes_on c.args.links.now.links c.requires.links in
    let sees_old = sees_before told old mid goes c.args.links.now.links c.args.written.now.files links s sees in
    let r = inv.right s sees_old seen in
    let begins = top_begins s nodes old root fs top r.1 in
    let was = formings nodes c.args.tags.now c.args.seen.now.memo in
    let at = inv.forms s sees_old seen f in
    let here = (formed_split s nodes (formings nodes old memo1) root fs top at.stack).1 in
    let stepped = c.in_ok-a.ensures.forms s sees r.0 begins at.memo here.arguments in
    let by = loop_step s nodes was old mid memo1 memo2 root fs top args at stepped.0 in
    let there = subst (StepForms s nodes (formings nodes mid memo2) top.port) c.in-Settles.is stepped.1 in
    record { memo = settle_formed s nodes mid memo2 memo3 top.port a ok selectors first there by.memo; left = subst (LeftFormed s nodes (formings nodes mid memo3)) (sym c.in-None.ensures.0) tt }

pub returns-in-None-clause-forms : goal.returns-in-None-clause-forms
returns-in-None-clause-forms g c =
    let nodes = (graph_of c.args.g.now).nodes in
    let told = g.G.Given.told c.args.given.now in
    let root = c.args.root in
    let old = c.steps.tags in
    let fs = c.steps.seen.stack.items in
    let top = c.steps.top in
    let inv = c.steps.invariant in
    let memo1 = c.steps.seen.memo in
    let mid = c.next_step.new.tags in
    let memo2 = c.next_step.new.memo in
    let args = c.next_step.new.arguments in
    let now = with_arguments top args in
    let goes = c.in_ok-a.ensures.goes_on in
    let same : answers_of memo2 ≡ answers_of memo1 = c.in_ok-a.ensures.answers in
    let there = top_after nodes old mid goes (answers_of memo1) (answers_of memo2) same fs top args c.in_ok-a.ensures.few c.in_ok-a.ensures.earlier inv.stack in
    let a = c.in-Settles.a in
    let memo3 = c.settle.new.self in
    let ok : answers_of memo3 ≡ with_answer (answers_of memo2) top.port a = c.in_ok-settle-in-Settles.ensures.ok in
    let selectors : memo3.selectors ≡ memo2.selectors = c.in_ok-settle-in-Settles.ensures.selectors in
    let first : memo3.formed ≡ memo2.formed = c.in_ok-settle-in-Settles.ensures.formed in
    let fits : SettledFits nodes mid a.settled = subst (StepFits nodes mid told memo2 top.port) c.in-Settles.is c.in_ok-a.ensures.fits in
    let memo_fits = settle_fits nodes mid memo2 memo3 top.port a ok selectors first fits c.in_ok-a.ensures.memo in
    λ s sees seen f.
    let links = links_fit_grows c.args.tags.now old inv.goes_on c.args.links.now.links c.requires.links in
    let sees_old = sees_before told old mid goes c.args.links.now.links c.args.written.now.files links s sees in
    let r = inv.right s sees_old seen in
    let begins = top_begins s nodes old root fs top r.1 in
    let was = formings nodes c.args.tags.now c.args.seen.now.memo in
    let at = inv.forms s sees_old seen f in
    let here = (formed_split s nodes (formings nodes old memo1) root fs top at.stack).1 in
    let stepped = c.in_ok-a.ensures.forms s sees r.0 begins at.memo here.arguments in
    let by = loop_step s nodes was old mid memo1 memo2 root fs top args at stepped.0 in
    let there = subst (StepForms s nodes (formings nodes mid memo2) top.port) c.in-Settles.is stepped.1 in
    loop_ends s nodes was mid memo2 memo3 root fs now by there first (last_bottom fs top root c.in-None.ensures.1 inv.bottom)

pub returns-in-Needs-clause-seen_formed : goal.returns-in-Needs-clause-seen_formed
returns-in-Needs-clause-seen_formed g c =
    let nodes = (graph_of c.args.g.now).nodes in
    let told = g.G.Given.told c.args.given.now in
    let root = c.args.root in
    let old = c.steps.tags in
    let fs = c.steps.seen.stack.items in
    let top = c.steps.top in
    let inv = c.steps.invariant in
    let memo1 = c.steps.seen.memo in
    let mid = c.next_step.new.tags in
    let memo2 = c.next_step.new.memo in
    let args = c.next_step.new.arguments in
    let now = with_arguments top args in
    let goes = c.in_ok-a.ensures.goes_on in
    let same : answers_of memo2 ≡ answers_of memo1 = c.in_ok-a.ensures.answers in
    let there = top_after nodes old mid goes (answers_of memo1) (answers_of memo2) same fs top args c.in_ok-a.ensures.few c.in_ok-a.ensures.earlier inv.stack in
    let pushed : c.push_frame-in-Needs.new.stack.items ≡ fs ++ now ∷ [] = c.in_ok-push_frame-in-Needs.ensures in
    λ s sees seen f.
    let links = links_fit_grows c.args.tags.now old inv.goes_on c.args.links.now.links c.requires.links in
    let sees_old = sees_before told old mid goes c.args.links.now.links c.args.written.now.files links s sees in
    let r = inv.right s sees_old seen in
    let begins = top_begins s nodes old root fs top r.1 in
    let was = formings nodes c.args.tags.now c.args.seen.now.memo in
    let at = inv.forms s sees_old seen f in
    let here = (formed_split s nodes (formings nodes old memo1) root fs top at.stack).1 in
    let stepped = c.in_ok-a.ensures.forms s sees r.0 begins at.memo here.arguments in
    let by = loop_step s nodes was old mid memo1 memo2 root fs top args at stepped.0 in
    record { memo = by.memo; left = subst (LeftFormed s nodes (formings nodes mid memo2)) (sym pushed) (loop_left s nodes was mid memo2 root fs now by (same_bottom fs top args ∙ inv.bottom)) }

pub returns-in-Needs-clause-forms : goal.returns-in-Needs-clause-forms
returns-in-Needs-clause-forms g c =
    let nodes = (graph_of c.args.g.now).nodes in
    let told = g.G.Given.told c.args.given.now in
    let root = c.args.root in
    let old = c.steps.tags in
    let fs = c.steps.seen.stack.items in
    let top = c.steps.top in
    let inv = c.steps.invariant in
    let memo1 = c.steps.seen.memo in
    let mid = c.next_step.new.tags in
    let memo2 = c.next_step.new.memo in
    let args = c.next_step.new.arguments in
    let now = with_arguments top args in
    let goes = c.in_ok-a.ensures.goes_on in
    let same : answers_of memo2 ≡ answers_of memo1 = c.in_ok-a.ensures.answers in
    let there = top_after nodes old mid goes (answers_of memo1) (answers_of memo2) same fs top args c.in_ok-a.ensures.few c.in_ok-a.ensures.earlier inv.stack in
    λ s sees seen f.
    let links = links_fit_grows c.args.tags.now old inv.goes_on c.args.links.now.links c.requires.links in
    let sees_old = sees_before told old mid goes c.args.links.now.links c.args.written.now.files links s sees in
    let r = inv.right s sees_old seen in
    let begins = top_begins s nodes old root fs top r.1 in
    let was = formings nodes c.args.tags.now c.args.seen.now.memo in
    let at = inv.forms s sees_old seen f in
    let here = (formed_split s nodes (formings nodes old memo1) root fs top at.stack).1 in
    let stepped = c.in_ok-a.ensures.forms s sees r.0 begins at.memo here.arguments in
    let by = loop_step s nodes was old mid memo1 memo2 root fs top args at stepped.0 in
    let there = subst (StepForms s nodes (formings nodes mid memo2) top.port) c.in-Needs.is stepped.1 in
    let needs = Needs (site_of nodes top.port.node) (value_term (heads_of mid) c.in-Needs.t) in
    loop_needs s nodes was mid memo2 root fs now needs by there (subst (StepRight s nodes mid top.port) c.in-Needs.is (c.in_ok-a.ensures.right s sees r.0 begins)).0

pub returns-in-None-clause-seen_met : goal.returns-in-None-clause-seen_met
returns-in-None-clause-seen_met g c =
    let nodes = (graph_of c.args.g.now).nodes in
    let told = g.G.Given.told c.args.given.now in
    let root = c.args.root in
    let old = c.steps.tags in
    let fs = c.steps.seen.stack.items in
    let top = c.steps.top in
    let inv = c.steps.invariant in
    let memo1 = c.steps.seen.memo in
    let mid = c.next_step.new.tags in
    let memo2 = c.next_step.new.memo in
    let args = c.next_step.new.arguments in
    let now = with_arguments top args in
    let goes = c.in_ok-a.ensures.goes_on in
    let same : answers_of memo2 ≡ answers_of memo1 = c.in_ok-a.ensures.answers in
    let there = top_after nodes old mid goes (answers_of memo1) (answers_of memo2) same fs top args c.in_ok-a.ensures.few c.in_ok-a.ensures.earlier inv.stack in
    let a = c.in-Settles.a in
    let memo3 = c.settle.new.self in
    let ok : answers_of memo3 ≡ with_answer (answers_of memo2) top.port a = c.in_ok-settle-in-Settles.ensures.ok in
    let selectors : memo3.selectors ≡ memo2.selectors = c.in_ok-settle-in-Settles.ensures.selectors in
    let first : memo3.formed ≡ memo2.formed = c.in_ok-settle-in-Settles.ensures.formed in
    let fits : SettledFits nodes mid a.settled = subst (StepFits nodes mid told memo2 top.port) c.in-Settles.is c.in_ok-a.ensures.fits in
    let memo_fits = settle_fits nodes mid memo2 memo3 top.port a ok selectors first fits c.in_ok-a.ensures.memo in
    λ s sees seen f.
    let links = links_fit_grows c.args.tags.now old inv.goes_on c.args.links.now.links c.requires.links in
    let sees_old = sees_before told old mid goes c.args.links.now.links c.args.written.now.files links s sees in
    let r = inv.right s sees_old seen in
    let here = inv.met s sees_old seen f in
    let parts = valued_split nodes (answers_of memo1) fs top here.2 in
    let stepped = c.in_ok-a.ensures.met s sees r.0 parts.1 in
    let taken = c.in_ok-a.ensures.valued parts.1 in
    let chosen = c.in_ok-a.ensures.selected here.1 in
    let own = subst (StepMet s nodes (answers_of memo1) top.port) c.in-Settles.is stepped in
    let open_ = (stack_split nodes old (answers_of memo1) fs top inv.stack).open_ in
    let both : answers_of memo3 ≡ with_answer (answers_of memo1) top.port a = ok ∙ ap (λ (x : Answers). with_answer x top.port a) same in
    let memo_met = subst (MemoMet s nodes) (sym both) (settle_met s nodes (answers_of memo1) top.port a open_ own here.0) in
    let selectors_met = selectors_put nodes memo2 memo3 top.port a (ap (λ (x : Answers). x top.port) same ∙ open_) ok selectors chosen in
    record { memo = memo_met; selectors = selectors_met; stack = subst (StackValued nodes (answers_of memo3)) (sym c.in-None.ensures.0) tt }

pub returns-in-None-clause-valued : goal.returns-in-None-clause-valued
returns-in-None-clause-valued g c =
    let nodes = (graph_of c.args.g.now).nodes in
    let told = g.G.Given.told c.args.given.now in
    let root = c.args.root in
    let old = c.steps.tags in
    let fs = c.steps.seen.stack.items in
    let top = c.steps.top in
    let inv = c.steps.invariant in
    let memo1 = c.steps.seen.memo in
    let mid = c.next_step.new.tags in
    let memo2 = c.next_step.new.memo in
    let args = c.next_step.new.arguments in
    let now = with_arguments top args in
    let goes = c.in_ok-a.ensures.goes_on in
    let same : answers_of memo2 ≡ answers_of memo1 = c.in_ok-a.ensures.answers in
    let there = top_after nodes old mid goes (answers_of memo1) (answers_of memo2) same fs top args c.in_ok-a.ensures.few c.in_ok-a.ensures.earlier inv.stack in
    let a = c.in-Settles.a in
    let memo3 = c.settle.new.self in
    let ok : answers_of memo3 ≡ with_answer (answers_of memo2) top.port a = c.in_ok-settle-in-Settles.ensures.ok in
    let selectors : memo3.selectors ≡ memo2.selectors = c.in_ok-settle-in-Settles.ensures.selectors in
    let first : memo3.formed ≡ memo2.formed = c.in_ok-settle-in-Settles.ensures.formed in
    let fits : SettledFits nodes mid a.settled = subst (StepFits nodes mid told memo2 top.port) c.in-Settles.is c.in_ok-a.ensures.fits in
    let memo_fits = settle_fits nodes mid memo2 memo3 top.port a ok selectors first fits c.in_ok-a.ensures.memo in
    let at_top : KnownValued (answers_of memo3) (input_at top.port) (known.Settled a.settled) = subst (λ (x : Answers). KnownValued x (input_at top.port) (known.Settled a.settled)) (sym ok) (put_valued (answers_of memo2) top.port a) in
    c.resolved.ensures.valued (answers_of memo3) (input_at root) (subst (λ (p : Port). KnownValued (answers_of memo3) (input_at p) (known.Settled a.settled)) (last_bottom fs top root c.in-None.ensures.1 inv.bottom) at_top)

pub returns-in-Needs-clause-seen_met : goal.returns-in-Needs-clause-seen_met
returns-in-Needs-clause-seen_met g c =
    let nodes = (graph_of c.args.g.now).nodes in
    let told = g.G.Given.told c.args.given.now in
    let root = c.args.root in
    let old = c.steps.tags in
    let fs = c.steps.seen.stack.items in
    let top = c.steps.top in
    let inv = c.steps.invariant in
    let memo1 = c.steps.seen.memo in
    let mid = c.next_step.new.tags in
    let memo2 = c.next_step.new.memo in
    let args = c.next_step.new.arguments in
    let now = with_arguments top args in
    let goes = c.in_ok-a.ensures.goes_on in
    let same : answers_of memo2 ≡ answers_of memo1 = c.in_ok-a.ensures.answers in
    let there = top_after nodes old mid goes (answers_of memo1) (answers_of memo2) same fs top args c.in_ok-a.ensures.few c.in_ok-a.ensures.earlier inv.stack in
    let pushed : c.push_frame-in-Needs.new.stack.items ≡ fs ++ now ∷ [] = c.in_ok-push_frame-in-Needs.ensures in
    λ s sees seen f.
    let links = links_fit_grows c.args.tags.now old inv.goes_on c.args.links.now.links c.requires.links in
    let sees_old = sees_before told old mid goes c.args.links.now.links c.args.written.now.files links s sees in
    let r = inv.right s sees_old seen in
    let here = inv.met s sees_old seen f in
    let parts = valued_split nodes (answers_of memo1) fs top here.2 in
    let stepped = c.in_ok-a.ensures.met s sees r.0 parts.1 in
    let taken = c.in_ok-a.ensures.valued parts.1 in
    let chosen = c.in_ok-a.ensures.selected here.1 in
    record {
      memo = subst (MemoMet s nodes) (sym same) here.0;
      selectors = chosen;
      stack = subst (StackValued nodes (answers_of memo2)) (sym pushed) (subst (λ (x : Answers). StackValued nodes x (fs ++ now ∷ [])) (sym same) (valued_join nodes (answers_of memo1) fs now parts.0 taken));
    }

pub returns-in_err-a-clause-goes_on : goal.returns-in_err-a-clause-goes_on
returns-in_err-a-clause-goes_on g c = goes_on_then c.args.tags.now c.steps.tags c.next_step.new.tags c.steps.invariant.goes_on c.next_step.ensures.goes_on

pub returns-in_err-settle-in-Settles-clause-goes_on : goal.returns-in_err-settle-in-Settles-clause-goes_on
returns-in_err-settle-in-Settles-clause-goes_on g c = goes_on_then c.args.tags.now c.steps.tags c.next_step.new.tags c.steps.invariant.goes_on c.in_ok-a.ensures.goes_on

pub returns-in_err-push_frame-in-Awaits-clause-goes_on : goal.returns-in_err-push_frame-in-Awaits-clause-goes_on
returns-in_err-push_frame-in-Awaits-clause-goes_on g c = goes_on_then c.args.tags.now c.steps.tags c.next_step.new.tags c.steps.invariant.goes_on c.in_ok-a.ensures.goes_on

pub returns-in_err-push_frame-in-Needs-clause-goes_on : goal.returns-in_err-push_frame-in-Needs-clause-goes_on
returns-in_err-push_frame-in-Needs-clause-goes_on g c = goes_on_then c.args.tags.now c.steps.tags c.next_step.new.tags c.steps.invariant.goes_on c.in_ok-a.ensures.goes_on
