use Rattle.std.proofs.Common.{◌∙◌, sym}
use Rattle.dx_macros.specs.DictionaryView.{dictionary_of}
use Rattle.dx_macros.proofs.Pushes.{ok_pushed, by_push, pushed, pushed_twice, pushed_thrice}
use Rattle.dx_macros.proofs.Doing.{body_none, body_call, body_assign, body_other}
use Rattle.dx_macros.proofs.Weights.{push_falls}
use Rattle.dx_macros.proofs.Falling.{one_pushed, two_pushed, three_pushed, body_end, body_call_parts, body_assign_parts, body_other_parts}
use Rattle.dx_macros.proofs.jobs.do_body.Goals as goal

pub returns-in-None-clause-continues : goal.returns-in-None-clause-continues
returns-in-None-clause-continues c =
    let d = dictionary_of c.args.d.now in
    let old = c.args.m.now in
    by_push old c.push.new.m _ c.push.result _ _ c.push.ensures
    (λ q. body_none d old c.args.results.now c.args.stmts.now c.in-None.ensures.cases ∙ sym (pushed d old _ _ q))

pub returns-in-Call-clause-continues : goal.returns-in-Call-clause-continues
returns-in-Call-clause-continues c =
    let d = dictionary_of c.args.d.now in
    let old = c.args.m.now in
    let p = ok_pushed old c.push-in-Some.new.m _ c.push-in-Some.result c.in_ok-push-in-Some.field-0 c.in_ok-push-in-Some.was c.push-in-Some.ensures in
    by_push c.push-in-Some.new.m c.push-in-Call.new.m _ c.push-in-Call.result _ _ c.push-in-Call.ensures
    (λ q. body_call d old c.args.results.now c.args.stmts.now c.in-Some.others.now c.in-Some.s.now c.in-Call.c c.in-Some.ensures.cases.0 c.in-Call.is ∙ sym (pushed_twice d old _ _ _ _ p q))

pub returns-in_ok-push-in-Assign-clause-continues : goal.returns-in_ok-push-in-Assign-clause-continues
returns-in_ok-push-in-Assign-clause-continues c =
    let d = dictionary_of c.args.d.now in
    let old = c.args.m.now in
    let p = ok_pushed old c.push-in-Some.new.m _ c.push-in-Some.result c.in_ok-push-in-Some.field-0 c.in_ok-push-in-Some.was c.push-in-Some.ensures in
    let q = ok_pushed c.push-in-Some.new.m c.push-in-Assign.new.m _ c.push-in-Assign.result c.in_ok-push-in-Assign.field-0 c.in_ok-push-in-Assign.was c.push-in-Assign.ensures in
    by_push c.push-in-Assign.new.m c.push-in-Assign-2.new.m _ c.push-in-Assign-2.result _ _ c.push-in-Assign-2.ensures
    (λ r. body_assign d old c.args.results.now c.args.stmts.now c.in-Some.others.now c.in-Some.s.now c.in-Assign.a _ _ c.in-Some.ensures.cases.0 c.in-Assign.is c.as_slice.ensures c.len.ensures ∙ sym (pushed_thrice d old _ _ _ _ _ _ p q r))

pub returns-in_default-clause-continues : goal.returns-in_default-clause-continues
returns-in_default-clause-continues c =
    let d = dictionary_of c.args.d.now in
    let old = c.args.m.now in
    let p = ok_pushed old c.push-in-Some.new.m _ c.push-in-Some.result c.in_ok-push-in-Some.field-0 c.in_ok-push-in-Some.was c.push-in-Some.ensures in
    body_other d old c.args.results.now c.args.stmts.now c.in-Some.others.now c.in-Some.s.now c.in-Some.ensures.cases.0 c.in_default.not-Call c.in_default.not-Assign ∙ sym (pushed d old _ _ p)

pub returns-in-None-clause-falls : goal.returns-in-None-clause-falls
returns-in-None-clause-falls c =
    push_falls (dictionary_of c.args.d.now) _ c.args.m.now c.push.new.m _ c.push.result c.push.ensures (body_end c.args.results.now c.args.stmts.now c.in-None.ensures.cases)

pub returns-in-Call-clause-falls : goal.returns-in-Call-clause-falls
returns-in-Call-clause-falls c =
    let old = c.args.m.now in
    let p = ok_pushed old c.push-in-Some.new.m _ c.push-in-Some.result c.in_ok-push-in-Some.field-0 c.in_ok-push-in-Some.was c.push-in-Some.ensures in
    two_pushed (dictionary_of c.args.d.now) _ old c.push-in-Some.new.m c.push-in-Call.new.m _ _ c.push-in-Call.result p c.push-in-Call.ensures
    (body_call_parts c.args.results.now c.args.stmts.now c.in-Some.others.now c.in-Some.s.now c.in-Call.c c.in-Some.ensures.cases.0 c.in-Call.is)

pub returns-in_ok-push-in-Assign-clause-falls : goal.returns-in_ok-push-in-Assign-clause-falls
returns-in_ok-push-in-Assign-clause-falls c =
    let old = c.args.m.now in
    let p = ok_pushed old c.push-in-Some.new.m _ c.push-in-Some.result c.in_ok-push-in-Some.field-0 c.in_ok-push-in-Some.was c.push-in-Some.ensures in
    let q = ok_pushed c.push-in-Some.new.m c.push-in-Assign.new.m _ c.push-in-Assign.result c.in_ok-push-in-Assign.field-0 c.in_ok-push-in-Assign.was c.push-in-Assign.ensures in
    three_pushed (dictionary_of c.args.d.now) _ old c.push-in-Some.new.m c.push-in-Assign.new.m c.push-in-Assign-2.new.m _ _ _ c.push-in-Assign-2.result p q c.push-in-Assign-2.ensures
    (body_assign_parts c.args.results.now c.args.stmts.now c.in-Some.others.now c.in-Some.s.now c.in-Assign.a c.in-Some.ensures.cases.0 c.in-Assign.is)

pub returns-in_default-clause-falls : goal.returns-in_default-clause-falls
returns-in_default-clause-falls c =
    let old = c.args.m.now in
    let p = ok_pushed old c.push-in-Some.new.m _ c.push-in-Some.result c.in_ok-push-in-Some.field-0 c.in_ok-push-in-Some.was c.push-in-Some.ensures in
    one_pushed (dictionary_of c.args.d.now) _ old c.push-in-Some.new.m _ p (body_other_parts c.args.results.now c.args.stmts.now c.in-Some.others.now c.in-Some.s.now c.in-Some.ensures.cases.0)
