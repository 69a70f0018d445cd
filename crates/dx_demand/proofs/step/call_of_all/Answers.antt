use Rattle.std.proofs.Common.{◌≡◌, ◌∙◌, Some, sym, subst}
use Rattle.dx_tags.specs.declared.term.Term.TheVariants as term
use Rattle.dx_demand.specs.Memo.{formed_of}
use Rattle.dx_demand.specs.Found.{AllFound}
use Rattle.dx_demand.proofs.Finding.{kept_itself, all_found_grows}
use Rattle.std.proofs.Common.{ap, [], ◌∷◌}
use Rattle.dx_graph.specs.Graph.{node_at}
use Rattle.dx_tags.specs.Closed.{CallHead, CallOf, heads_of, value_terms}
use Rattle.dx_tags.proofs.ClosedTerms.{head_unfolds}
use Rattle.dx_tags.proofs.Growth.{goes_on_then, values_on}
use Rattle.dx_meaning.specs.Forming.{FormsCall, forming, file_forms, call_formed}
use Rattle.dx_meaning.proofs.Formed.{after_append}
use Rattle.dx_demand.specs.Forming.{formings, IsCallTag}
use Rattle.dx_demand.proofs.FormedTerms.{own_formed, call_formed_by, name_calls_grow}
use Rattle.dx_demand.proofs.step.call_of_all.Goals as goal

pub returns-clause-found : goal.returns-clause-found
returns-clause-found c = λ l f m ts e.
    let new = c.call_tag.new.tags in
    let first = formed_of c.args.memo.now in
    let both : Some (term.Call c.args.called c.in_ok-all.all) ≡ Some (term.Call m ts) = sym c.in_ok-t.ensures.slot ∙ e in
    let same : c.in_ok-all.all ≡ ts = cc in
    subst (AllFound l new first) same
    (all_found_grows c.arguments_with.new.tags new c.in_ok-t.ensures.goes_on l first first (kept_itself first) c.in_ok-all.all c.in_ok-all.ensures.earlier (c.in_ok-all.ensures.found l first f))

pub returns-clause-called : goal.returns-clause-called
returns-clause-called c =
    let new = c.call_tag.new.tags in
    let call = term.Call c.args.called c.in_ok-all.all in
    record { within = c.in_ok-t.ensures.fits.fits.within; call = CallOf c.args.called (value_terms (heads_of new) c.in_ok-all.all); head = head_unfolds new c.in_ok-t.ensures.formed.formed c.in_ok-t.t.tag call c.in_ok-t.ensures.slot }

pub returns-clause-forms : goal.returns-clause-forms
returns-clause-forms c = λ nodes calls.
    let old = c.args.tags.now in
    let mid = c.arguments_with.new.tags in
    let new = c.call_tag.new.tags in
    let memo = c.args.memo.now in
    let all = c.in_ok-all.all in
    let m = c.args.called in
    let place = (node_at nodes c.args.port.node).place in
    let was = formings nodes old memo in
    let goes = c.in_ok-t.ensures.goes_on in
    let exact = c.in_ok-t.ensures.formed in
    let tag = c.in_ok-t.t.tag in
    let args = values_on mid new goes all c.in_ok-all.ensures.earlier in
    let here : IsCallTag new tag = record {
      within = c.in_ok-t.ensures.fits.fits.within;
      call = CallOf m (value_terms (heads_of mid) all);
      head = head_unfolds new exact.formed tag (term.Call m all) c.in_ok-t.ensures.slot ∙ ap (λ us. CallHead (CallOf m us)) args;
    } in
    let one = own_formed nodes old mid c.in_ok-all.ensures.goes_on memo calls c.args.file c.in_ok-all.ensures.terms in
    let two = call_formed_by nodes mid new goes exact.formed exact.distinct memo c.form.new.self (name_calls_grow old mid c.in_ok-all.ensures.goes_on memo calls) tag c.args.port.node here c.in_ok-t.ensures.terms c.in_ok-form.ensures.entries in
    two ∙ ap (λ us. forming (FormsCall (record { place = place; call = CallOf m us })) (formings nodes mid memo)) c.in_ok-all.ensures.named
    ∙ ap (forming (call_formed place m c.args.file (value_terms (heads_of old) c.args.arguments))) one
    ∙ sym (after_append (file_forms c.args.file) (call_formed place m c.args.file (value_terms (heads_of old) c.args.arguments) ∷ []) was)

pub returns-in_err-t-clause-goes_on : goal.returns-in_err-t-clause-goes_on
returns-in_err-t-clause-goes_on c = goes_on_then c.args.tags.now c.arguments_with.new.tags c.call_tag.new.tags c.in_ok-all.ensures.goes_on c.call_tag.ensures.goes_on

pub returns-in_err-form-clause-goes_on : goal.returns-in_err-form-clause-goes_on
returns-in_err-form-clause-goes_on c = goes_on_then c.args.tags.now c.arguments_with.new.tags c.call_tag.new.tags c.in_ok-all.ensures.goes_on c.in_ok-t.ensures.goes_on

pub returns-clause-goes_on : goal.returns-clause-goes_on
returns-clause-goes_on c = goes_on_then c.args.tags.now c.arguments_with.new.tags c.call_tag.new.tags c.in_ok-all.ensures.goes_on c.in_ok-t.ensures.goes_on
