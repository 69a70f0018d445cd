use Rattle.std.proofs.Common.{◌∙◌, sym}
use Rattle.dx_macros.specs.DictionaryView.{dictionary_of}
use Rattle.dx_macros.proofs.Pushes.{ok_pushed, by_push, pushed_twice}
use Rattle.dx_macros.proofs.Doing.{args_first}
use Rattle.dx_macros.proofs.Falling.{two_pushed, args_parts}
use Rattle.dx_macros.proofs.jobs.do_args.Goals as goal

pub returns-in_ok-push-in-Some-clause-continues : goal.returns-in_ok-push-in-Some-clause-continues
returns-in_ok-push-in-Some-clause-continues c =
    let d = dictionary_of c.args.d.now in
    let old = c.args.m.now in
    let p = ok_pushed old c.push.new.m _ c.push.result c.in_ok-push-in-Some.field-0 c.in_ok-push-in-Some.was c.push.ensures in
    by_push c.push.new.m c.push-in-Some.new.m _ c.push-in-Some.result _ _ c.push-in-Some.ensures
    (λ q. args_first d old c.args.args.now c.in-Some.others.now c.in-Some.a.now c.in-Some.ensures.cases.0 ∙ sym (pushed_twice d old _ _ _ _ p q))

pub returns-in_ok-push-in-Some-clause-falls : goal.returns-in_ok-push-in-Some-clause-falls
returns-in_ok-push-in-Some-clause-falls c =
    let old = c.args.m.now in
    let p = ok_pushed old c.push.new.m _ c.push.result c.in_ok-push-in-Some.field-0 c.in_ok-push-in-Some.was c.push.ensures in
    two_pushed (dictionary_of c.args.d.now) _ old c.push.new.m c.push-in-Some.new.m _ _ c.push-in-Some.result p c.push-in-Some.ensures
    (args_parts c.args.args.now c.in-Some.others.now c.in-Some.a.now c.in-Some.ensures.cases.0)
