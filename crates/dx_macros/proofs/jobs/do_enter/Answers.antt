use Rattle.std.proofs.Common.{◌≡◌, ◌-◌, suc, refl, arith, ◌+◌}
use Rattle.dx_macros.specs.DictionaryView.{dictionary_of}
use Rattle.dx_macros.specs.Steps.{plain_step}
use Rattle.dx_macros.proofs.Pushes.{ok_entered, by_push}
use Rattle.dx_macros.proofs.Doing.{entered_macro}
use Rattle.dx_ast.specs.Plain.{plain_stmts}
use Rattle.dx_macros.specs.Weight.{body_weight}
use Rattle.dx_macros.proofs.Weights.{push_falls, entered_falls, wider}
use Rattle.dx_macros.proofs.Falling.{macro_parts}
use Rattle.dx_macros.proofs.jobs.do_enter.Goals as goal

pub returns-clause-continues : goal.returns-clause-continues
returns-clause-continues c =
    let d = dictionary_of c.args.d.now in
    let old = c.args.m.now in
    let left : old.active.left ≡ suc (old.active.left - 1) = omega arith in
    let p = ok_entered old c.enter.new.m c.text_of_macro-text.result c.enter.result c.in_ok-enter.field-0 c.in_ok-enter.was c.enter.ensures in
    by_push c.enter.new.m c.push.new.m _ c.push.result _ _ c.push.ensures
    (λ q. entered_macro d old c.enter.new.m c.push.new.m c.text_of_macro-text.result _ c.args.x.now (plain_step c.args.step) c.as_slice.result.now c.as_slice-2.result.now c.as_slice-3.result.now (old.active.left - 1) p q refl c.as_slice.ensures c.as_slice-2.ensures c.as_slice-3.ensures left c.text_of_macro-text.ensures)

pub returns-clause-falls : goal.returns-clause-falls
returns-clause-falls c =
    let d = dictionary_of c.args.d.now in
    let old = c.args.m.now in
    let p = ok_entered old c.enter.new.m c.text_of_macro-text.result c.enter.result c.in_ok-enter.field-0 c.in_ok-enter.was c.enter.ensures in
    let w = suc (body_weight c.as_slice-2.result.now (plain_stmts c.as_slice-3.result.now)) in
    wider d (w + 1) _ old c.push.new.m c.push.result (entered_falls d w old c.enter.new.m c.push.new.m c.text_of_macro-text.result c.push.result p (push_falls d w c.enter.new.m c.push.new.m _ c.push.result c.push.ensures (omega arith)))
    (macro_parts c.args.x.now c.as_slice-2.result.now c.as_slice-3.result.now c.as_slice-2.ensures c.as_slice-3.ensures)
