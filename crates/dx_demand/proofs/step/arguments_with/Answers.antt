use Rattle.dx_demand.specs.Found.{AllFound}
use Rattle.dx_demand.proofs.Finding.{kept_itself, all_found_grows, all_found_push}
use Rattle.std.proofs.Common.{◌≡◌, ⊎_elim, inl, ◌∙◌, Some, None, List, length, sym, ap, subst}
use Rattle.dx_tags.specs.declared.term.Term.TheVariants as term
use Rattle.dx_tags.specs.declared.term.ValueTag.{ValueTag}
use Rattle.dx_tags.specs.Closed.{heads_of, value_terms, AreEarlier}
use Rattle.dx_tags.specs.Whole.{IsWhole}
use Rattle.dx_tags.proofs.Growth.{earlier_on, earlier_push, values_on}
use Rattle.dx_meaning.specs.Scan.{with_file}
use Rattle.dx_demand.proofs.Arguments.{with_none, file_pushed}
use Rattle.dx_demand.proofs.Terms.{arguments_on, whole_call, whole_import}
use Rattle.dx_demand.specs.Forming.{named_terms, with_own}
use Rattle.dx_demand.proofs.step.arguments_with.Goals as goal

pub returns-in-None-clause-earlier : goal.returns-in-None-clause-earlier
returns-in-None-clause-earlier c = c.requires.earlier.earlier

pub returns-in-None-clause-whole : goal.returns-in-None-clause-whole
returns-in-None-clause-whole c = whole_call (heads_of c.args.tags.now) c.args.called c.args.arguments c.requires.takes c.requires.earlier.values

pub returns-in-None-clause-named : goal.returns-in-None-clause-named
returns-in-None-clause-named c =
    let ts = value_terms (heads_of c.args.tags.now) c.args.arguments in
    sym (ap (with_file ts) c.in-None.is ∙ with_none ts)

pub returns-in_ok-push-in-Some-clause-earlier : goal.returns-in_ok-push-in-Some-clause-earlier
returns-in_ok-push-in-Some-clause-earlier c =
    let new = c.file_tag.new.tags in
    let before = earlier_on c.args.tags.now new c.in_ok-t-in-Some.ensures.goes_on c.args.arguments c.requires.earlier.earlier in
    subst (AreEarlier (heads_of new) (length new)) (sym c.in_ok-push-in-Some.ensures.ok) (earlier_push new c.args.arguments c.in_ok-t-in-Some.t before c.in_ok-t-in-Some.ensures.fits)

pub returns-in_ok-push-in-Some-clause-whole : goal.returns-in_ok-push-in-Some-clause-whole
returns-in_ok-push-in-Some-clause-whole c =
    let new = c.file_tag.new.tags in
    let before = arguments_on c.args.tags.now new c.in_ok-t-in-Some.ensures.goes_on c.args.arguments c.requires.earlier in
    subst (λ (ts : List ValueTag). IsWhole (heads_of new) (term.Call c.args.called ts)) (sym c.in_ok-push-in-Some.ensures.ok)
    (whole_import (heads_of new) c.args.called c.args.arguments c.in_ok-t-in-Some.t
    (⊎_elim (λ i. i) (λ n. let no : None ≡ Some c.in-Some.content = sym n ∙ c.in-Some.is in cc) c.requires.reads)
    c.requires.takes before.values c.in_ok-t-in-Some.ensures.file)

pub returns-in_ok-push-in-Some-clause-named : goal.returns-in_ok-push-in-Some-clause-named
returns-in_ok-push-in-Some-clause-named c =
    let old = c.args.tags.now in
    let new = c.file_tag.new.tags in
    ap (value_terms (heads_of new)) c.in_ok-push-in-Some.ensures.ok
    ∙ file_pushed (heads_of new) c.args.arguments c.in_ok-t-in-Some.t c.in-Some.content c.in_ok-t-in-Some.ensures.named
    ∙ ap (λ ts. with_file ts (Some c.in-Some.content)) (values_on old new c.in_ok-t-in-Some.ensures.goes_on c.args.arguments c.requires.earlier.earlier)
    ∙ ap (with_file (value_terms (heads_of old) c.args.arguments)) (sym c.in-Some.is)

pub returns-in_ok-push-in-Some-clause-found : goal.returns-in_ok-push-in-Some-clause-found
returns-in_ok-push-in-Some-clause-found c = λ l first f.
    let new = c.file_tag.new.tags in
    subst (AllFound l new first) (sym c.in_ok-push-in-Some.ensures.ok) (all_found_push l new first c.args.arguments c.in_ok-t-in-Some.t
    (all_found_grows c.args.tags.now new c.in_ok-t-in-Some.ensures.goes_on l first first (kept_itself first) c.args.arguments c.requires.earlier.earlier f)
    (inl c.in_ok-t-in-Some.ensures.ready))

pub returns-in-None-clause-terms : goal.returns-in-None-clause-terms
returns-in-None-clause-terms c = sym (ap (λ f. with_own f (named_terms c.args.tags.now)) c.in-None.is)

pub returns-in_ok-push-in-Some-clause-terms : goal.returns-in_ok-push-in-Some-clause-terms
returns-in_ok-push-in-Some-clause-terms c = c.in_ok-t-in-Some.ensures.terms ∙ sym (ap (λ f. with_own f (named_terms c.args.tags.now)) c.in-Some.is)
