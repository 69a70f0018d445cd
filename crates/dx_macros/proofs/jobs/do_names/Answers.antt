use Rattle.std.proofs.Common.{◌∙◌, sym}
use Rattle.dx_macros.specs.DictionaryView.{dictionary_of}
use Rattle.dx_macros.specs.MachineView.{name_first}
use Rattle.dx_macros.proofs.Pushes.{ok_pushed, by_call, name_pushed}
use Rattle.dx_macros.proofs.Doing.{names_first}
use Rattle.dx_macros.proofs.Weights.{pushed_falls, wider}
use Rattle.dx_macros.proofs.Falling.{names_parts}
use Rattle.dx_macros.proofs.jobs.do_names.Goals as goal

pub returns-in_ok-push-in-Some-clause-continues : goal.returns-in_ok-push-in-Some-clause-continues
returns-in_ok-push-in-Some-clause-continues c =
    let d = dictionary_of c.args.d.now in
    let old = c.args.m.now in
    let p = ok_pushed old c.push.new.m _ c.push.result c.in_ok-push-in-Some.field-0 c.in_ok-push-in-Some.was c.push.ensures in
    by_call c.read_name.result _ (name_first d c.bytes.result.now c.push.new.m) _
    (names_first d old c.args.names.now c.in-Some.others.now c.in-Some.n.now c.bytes.result.now c.in-Some.ensures.cases.0 c.bytes.ensures ∙ sym (name_pushed d old _ _ _ p))
    c.read_name.ensures.continues

pub returns-in_ok-push-in-Some-clause-falls : goal.returns-in_ok-push-in-Some-clause-falls
returns-in_ok-push-in-Some-clause-falls c =
    let d = dictionary_of c.args.d.now in
    let old = c.args.m.now in
    let p = ok_pushed old c.push.new.m _ c.push.result c.in_ok-push-in-Some.field-0 c.in_ok-push-in-Some.was c.push.ensures in
    wider d _ _ old c.read_name.new.m c.read_name.result (pushed_falls d 1 old c.push.new.m c.read_name.new.m _ c.read_name.result p c.read_name.ensures.falls)
    (names_parts c.args.names.now c.in-Some.others.now c.in-Some.n.now c.in-Some.ensures.cases.0)
