use Rattle.dx_demand.specs.Memo.{formed_of}
use Rattle.std.proofs.Common.{inl}
use Rattle.dx_demand.proofs.Finding.{kept_itself, memo_found_grows, stack_found_grows}
use Rattle.dx_graph.specs.GraphView.{graph_of}
use Rattle.dx_demand.specs.Memo.{answers_of}
use Rattle.dx_demand.proofs.Growing.{memo_fits_grows, memo_right_grows, stack_fits_grows, left_right_grows}
use Rattle.std.proofs.Common.{◌≡◌, sym, ap, subst, ◌∙◌, [], ◌∷◌}
use Rattle.dx_ast.specs.declared.constants.Const.{Const}
use Rattle.dx_tags.specs.Closed.{ConstantTerm}
use Rattle.dx_meaning.specs.Forming.{FormsValue, after, Grows}
use Rattle.dx_meaning.proofs.Formed.{after_grows}
use Rattle.dx_demand.proofs.FormedTerms.{value_formed}
use Rattle.dx_demand.specs.Forming.{formings, input_forms}
use Rattle.dx_demand.proofs.FormedSteps.{left_formed_grows, memo_formed_grows}
use Rattle.dx_demand.specs.Calling.{IsValued, ResolvedValued}
use Rattle.dx_demand.specs.Halting.{HaltsAt}
use Rattle.std.specs.Prelude.{IfOk}
use Rattle.dx_demand.proofs.resolving.resolve.Goals as goal

pub returns-in_ok-t-in-Constant-clause-seen : goal.returns-in_ok-t-in-Constant-clause-seen
returns-in_ok-t-in-Constant-clause-seen g c =
    let nodes = (graph_of c.args.g.now).nodes in
    let old = c.args.tags.now in
    let new = c.constant_tag.new.tags in
    let goes = c.in_ok-t-in-Constant.ensures.goes_on in
    let seen = c.args.seen.now in
    record { memo = memo_fits_grows nodes old new goes seen.memo c.requires.seen.memo; stack = stack_fits_grows nodes old new goes (answers_of seen.memo) seen.stack.items c.requires.seen.stack }

pub returns-in_ok-t-in-Constant-clause-seen_right : goal.returns-in_ok-t-in-Constant-clause-seen_right
returns-in_ok-t-in-Constant-clause-seen_right g c = λ s sees right.
    let nodes = (graph_of c.args.g.now).nodes in
    let old = c.args.tags.now in
    let new = c.constant_tag.new.tags in
    let goes = c.in_ok-t-in-Constant.ensures.goes_on in
    let seen = c.args.seen.now in
    record { memo = memo_right_grows s nodes old new goes seen.memo c.requires.seen.memo right.memo; left = left_right_grows s nodes old new goes (answers_of seen.memo) seen.stack.items c.requires.seen.stack right.left }

pub returns-in_ok-t-in-Constant-clause-closed : goal.returns-in_ok-t-in-Constant-clause-closed
returns-in_ok-t-in-Constant-clause-closed g c = λ cl.
    let nodes = (graph_of c.args.g.now).nodes in
    let links = c.args.links.now.links in
    let old = c.args.tags.now in
    let new = c.constant_tag.new.tags in
    let goes = c.in_ok-t-in-Constant.ensures.goes_on in
    let seen = c.args.seen.now in
    let first = formed_of seen.memo in
    record {
      memo = memo_found_grows nodes old new goes c.requires.formed.formed links seen.memo c.requires.seen.memo cl.memo;
      stack = stack_found_grows nodes old new goes links first first (kept_itself first) (answers_of seen.memo) seen.stack.items c.requires.seen.stack cl.stack;
    }

pub returns-in_ok-t-in-Constant-clause-found : goal.returns-in_ok-t-in-Constant-clause-found
returns-in_ok-t-in-Constant-clause-found g c = λ cl. inl c.in_ok-t-in-Constant.ensures.ready

pub returns-in_ok-t-in-Constant-clause-seen_formed : goal.returns-in_ok-t-in-Constant-clause-seen_formed
returns-in_ok-t-in-Constant-clause-seen_formed g c = λ s sees right f.
    let nodes = (graph_of c.args.g.now).nodes in
    let old = c.args.tags.now in
    let new = c.constant_tag.new.tags in
    let goes = c.in_ok-t-in-Constant.ensures.goes_on in
    let seen = c.args.seen.now in
    let was = formings nodes old seen.memo in
    let now = formings nodes new seen.memo in
    let k = c.in_ok-share-in-Constant.field-0 in
    let e = value_formed nodes old new goes seen.memo f.memo.calls (ConstantTerm k) c.in_ok-t-in-Constant.ensures.terms in
    let grows : Grows was now = subst (Grows was) (sym e) (after_grows (FormsValue (ConstantTerm k) ∷ []) was) in
    record { memo = memo_formed_grows s nodes old new goes seen.memo grows f.memo; left = left_formed_grows s nodes was now grows seen.stack.items f.left }

pub returns-in_ok-t-in-Constant-clause-forms : goal.returns-in_ok-t-in-Constant-clause-forms
returns-in_ok-t-in-Constant-clause-forms g c = λ s sees right f.
    let nodes = (graph_of c.args.g.now).nodes in
    let old = c.args.tags.now in
    let new = c.constant_tag.new.tags in
    let goes = c.in_ok-t-in-Constant.ensures.goes_on in
    let seen = c.args.seen.now in
    let was = formings nodes old seen.memo in
    let now = formings nodes new seen.memo in
    let k = c.in_ok-share-in-Constant.field-0 in
    let e = value_formed nodes old new goes seen.memo f.memo.calls (ConstantTerm k) c.in_ok-t-in-Constant.ensures.terms in
    let same : k ≡ c.in-Constant.c = c.in_ok-share-in-Constant.ensures in
    e ∙ ap (λ (x : Const). after (FormsValue (ConstantTerm x) ∷ []) was) same ∙ sym (ap (λ i. after (input_forms s nodes i) was) c.in-Constant.is)

pub returns-in_ok-t-in-Constant-clause-valued : goal.returns-in_ok-t-in-Constant-clause-valued
returns-in_ok-t-in-Constant-clause-valued g c = subst (IsValued (answers_of c.args.seen.now.memo)) (sym c.in-Constant.is) tt

pub returns-in-Result-clause-valued : goal.returns-in-Result-clause-valued
returns-in-Result-clause-valued g c =
    subst (λ i. IfOk c.resolve_port.result (λ r. ResolvedValued (answers_of c.resolve_port.new.seen.memo) i r)) (sym c.in-Result.is) c.resolve_port.ensures.valued

pub returns-in-Result-clause-halted : goal.returns-in-Result-clause-halted
returns-in-Result-clause-halted g c = λ s sees seen.
    subst (λ i. IfOk c.resolve_port.result (λ r. HaltsAt s (graph_of c.args.g.now).nodes i r)) (sym c.in-Result.is) (c.resolve_port.ensures.halted s sees seen)
