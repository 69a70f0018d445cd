use Rattle.std.proofs.Common.{◌∙◌, sym, refl, ap, ap₂, List, arith}
use Rattle.dx_ast.specs.Plain.{plain_args, plain_macro}
use Rattle.dx_macros.specs.DictionaryView.{dictionary_of}
use Rattle.dx_signatures.specs.CalleeView.{plain_callee}
use Rattle.dx_macros.specs.Steps.{plain_step}
use Rattle.dx_macros.specs.MachineView.{accepted}
use Rattle.dx_macros.proofs.Pushes.{ok_pushed, by_push}
use Rattle.dx_macros.proofs.Doing.{ok_counted, accepted_macro, accepted_plain}
use Rattle.dx_ast.specs.declared.expressions.Arg.{Arg}
use Rattle.dx_macros.specs.Weight.{args_weight, callee_weight}
use Rattle.dx_signatures.specs.declared.callee.Callee.{Callee}
use Rattle.dx_macros.proofs.Weights.{accepted_pays, accepted_macro_pays}
use Rattle.dx_macros.proofs.jobs.accept.Goals as goal

pub returns-in_ok-push-in-Macro-clause-continues : goal.returns-in_ok-push-in-Macro-clause-continues
returns-in_ok-push-in-Macro-clause-continues c =
    let d = dictionary_of c.args.d.now in
    let old = c.args.m.now in
    let name = c.bytes.result.now in
    let step = plain_step c.args.step in
    let p = ok_counted old c.counted.new.m name c.counted.result c.in_ok-counted.field-0 c.in_ok-counted.was c.counted.ensures in
    let q = ok_pushed c.counted.new.m c.push.new.m _ c.push.result c.in_ok-push-in-Macro.field-0 c.in_ok-push-in-Macro.was c.push.ensures in
    by_push c.push.new.m c.push-in-Macro.new.m _ c.push-in-Macro.result _ _ c.push-in-Macro.ensures
    (λ r.
    sym (ap₂ (λ u v. accepted d (plain_callee c.args.callee) step u (plain_args v) old) c.bytes.ensures c.as_slice.ensures)
    ∙ ap (λ x. accepted d (plain_callee x) step name (plain_args c.as_slice.result.now) old) c.in-Macro.is
    ∙ accepted_macro d old name c.counted.new.m p c.push.new.m c.push-in-Macro.new.m (plain_macro c.in-Macro.x.now) step (plain_args c.as_slice.result.now) _ _ q r refl refl)

pub returns-in-Function-clause-continues : goal.returns-in-Function-clause-continues
returns-in-Function-clause-continues c =
    let d = dictionary_of c.args.d.now in
    let old = c.args.m.now in
    let name = c.bytes.result.now in
    let step = plain_step c.args.step in
    let p = ok_counted old c.counted.new.m name c.counted.result c.in_ok-counted.field-0 c.in_ok-counted.was c.counted.ensures in
    by_push c.counted.new.m c.push-in-Function.new.m _ c.push-in-Function.result _ _ c.push-in-Function.ensures
    (λ r.
    sym (ap₂ (λ u v. accepted d (plain_callee c.args.callee) step u (plain_args v) old) c.bytes.ensures c.as_slice-in-Function.ensures)
    ∙ ap (λ x. accepted d (plain_callee x) step name (plain_args c.as_slice-in-Function.result.now) old) c.in-Function.is
    ∙ accepted_plain d old name c.counted.new.m p c.push-in-Function.new.m (plain_args c.as_slice-in-Function.result.now) _ r refl)

pub returns-in-Unknown-clause-continues : goal.returns-in-Unknown-clause-continues
returns-in-Unknown-clause-continues c =
    let d = dictionary_of c.args.d.now in
    let old = c.args.m.now in
    let name = c.bytes.result.now in
    let step = plain_step c.args.step in
    let p = ok_counted old c.counted.new.m name c.counted.result c.in_ok-counted.field-0 c.in_ok-counted.was c.counted.ensures in
    by_push c.counted.new.m c.push-in-Unknown.new.m _ c.push-in-Unknown.result _ _ c.push-in-Unknown.ensures
    (λ r.
    sym (ap₂ (λ u v. accepted d (plain_callee c.args.callee) step u (plain_args v) old) c.bytes.ensures c.as_slice-in-Unknown.ensures)
    ∙ ap (λ x. accepted d (plain_callee x) step name (plain_args c.as_slice-in-Unknown.result.now) old) c.in-Unknown.is
    ∙ accepted_plain d old name c.counted.new.m p c.push-in-Unknown.new.m (plain_args c.as_slice-in-Unknown.result.now) _ r refl)

pub returns-in_ok-push-in-Macro-clause-pays : goal.returns-in_ok-push-in-Macro-clause-pays
returns-in_ok-push-in-Macro-clause-pays c =
    let old = c.args.m.now in
    let name = c.bytes.result.now in
    let p = ok_counted old c.counted.new.m name c.counted.result c.in_ok-counted.field-0 c.in_ok-counted.was c.counted.ensures in
    let q = ok_pushed c.counted.new.m c.push.new.m _ c.push.result c.in_ok-push-in-Macro.field-0 c.in_ok-push-in-Macro.was c.push.ensures in
    let args = ap (λ (xs : List Arg). args_weight (plain_args xs)) c.as_slice.ensures in
    let macro = ap (λ (x : Callee). callee_weight (plain_callee x)) c.in-Macro.is in
    accepted_macro_pays (dictionary_of c.args.d.now) old c.counted.new.m c.push.new.m c.push-in-Macro.new.m name _ _ _ c.push-in-Macro.result c.requires p q c.push-in-Macro.ensures (omega (arith, args, macro))

pub returns-in-Function-clause-pays : goal.returns-in-Function-clause-pays
returns-in-Function-clause-pays c =
    let old = c.args.m.now in
    let name = c.bytes.result.now in
    let p = ok_counted old c.counted.new.m name c.counted.result c.in_ok-counted.field-0 c.in_ok-counted.was c.counted.ensures in
    let args = ap (λ (xs : List Arg). args_weight (plain_args xs)) c.as_slice-in-Function.ensures in
    accepted_pays (dictionary_of c.args.d.now) old c.counted.new.m c.push-in-Function.new.m name _ _ c.push-in-Function.result c.requires p c.push-in-Function.ensures (omega (arith, args))

pub returns-in-Unknown-clause-pays : goal.returns-in-Unknown-clause-pays
returns-in-Unknown-clause-pays c =
    let old = c.args.m.now in
    let name = c.bytes.result.now in
    let p = ok_counted old c.counted.new.m name c.counted.result c.in_ok-counted.field-0 c.in_ok-counted.was c.counted.ensures in
    let args = ap (λ (xs : List Arg). args_weight (plain_args xs)) c.as_slice-in-Unknown.ensures in
    accepted_pays (dictionary_of c.args.d.now) old c.counted.new.m c.push-in-Unknown.new.m name _ _ c.push-in-Unknown.result c.requires p c.push-in-Unknown.ensures (omega (arith, args))
