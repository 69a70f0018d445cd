use Rattle.std.proofs.Common.{◌≡◌, ◌∙◌, ◌+◌, refl, ap, arith, suc}
use Rattle.std.specs.Prelude.{Err}
use Rattle.dx_macros.specs.DictionaryView.{dictionary_of}
use Rattle.dx_signatures.specs.CalleeView.{plain_callee}
use Rattle.dx_macros.proofs.Pushes.{by_call}
use Rattle.dx_macros.proofs.Doing.{call_faulty, call_accepted, by_fault}
use Rattle.dx_ast.specs.declared.expressions.Call.{out-Call}
use Rattle.dx_ast.specs.Plain.{plain_args}
use Rattle.dx_macros.specs.Weight.{args_weight}
use Rattle.dx_macros.proofs.Weights.{call_falls}
use Rattle.dx_macros.proofs.Falling.{call_parts}
use Rattle.dx_macros.proofs.jobs.do_call.Goals as goal

pub returns-in-Some-clause-continues : goal.returns-in-Some-clause-continues
returns-in-Some-clause-continues c =
    let d = dictionary_of c.args.d.now in
    let old = c.args.m.now in
    let name = c.bytes-name.result.now in
    let kth : c.count-k.result + 1 ≡ suc c.count-k.result = omega arith in
    let k = kth ∙ ap suc c.count-k.ensures.times in
    by_fault {A = Unit {0}} (Err c.faulty.result) c.faulty.result _ _ _ c.in-Some.fault refl
    (call_faulty d old c.args.targets c.args.c.now name c.as_slice-args.result.now (plain_callee c.called-callee.result) (c.count-k.result + 1) c.in_ok-fault.field-0 c.in-Some.fault
    c.bytes-name.ensures c.as_slice-args.ensures c.called-callee.ensures k c.in_ok-fault.ensures.fault c.in-Some.is)
    c.faulty.ensures

pub returns-in-None-clause-continues : goal.returns-in-None-clause-continues
returns-in-None-clause-continues c =
    let d = dictionary_of c.args.d.now in
    let old = c.args.m.now in
    let name = c.bytes-name.result.now in
    let kth : c.count-k.result + 1 ≡ suc c.count-k.result = omega arith in
    let k = kth ∙ ap suc c.count-k.ensures.times in
    by_call c.accept.result _ _ _
    (call_accepted d old c.args.targets c.args.c.now name c.as_slice-args.result.now (plain_callee c.called-callee.result) (c.count-k.result + 1) c.in_ok-fault.field-0
    c.bytes-name.ensures c.as_slice-args.ensures c.called-callee.ensures k c.in_ok-fault.ensures.fault c.in-None.is)
    c.accept.ensures.continues

pub returns-in-None-clause-falls : goal.returns-in-None-clause-falls
returns-in-None-clause-falls c =
    call_falls (dictionary_of c.args.d.now) c.args.m.now c.accept.new.m c.bytes-name.result.now (plain_callee c.called-callee.result) (args_weight (plain_args (out-Call c.args.c.now).args)) _ c.accept.result
    c.called-callee.ensures c.accept.ensures.pays (call_parts c.args.c.now)
