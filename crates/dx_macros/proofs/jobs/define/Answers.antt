use Rattle.std.proofs.Common.{◌∙◌, List, refl, sym, ap}
use Rattle.dx_macros.specs.DictionaryView.{dictionary_of}
use Rattle.dx_macros.proofs.Pushes.{ok_entered, by_push}
use Rattle.dx_ast.specs.Classes.{Text}
use Rattle.dx_macros.specs.Site.{first_target}
use Rattle.dx_macros.specs.Machine as m
use Rattle.dx_macros.proofs.Doing.{defined}
use Rattle.dx_definitions.specs.TopTexts.{TopText}
use Rattle.dx_macros.specs.Weight.{expr_weight}
use Rattle.dx_macros.proofs.Weights.{defines_falls}
use Rattle.dx_macros.proofs.jobs.define.Goals as goal

pub returns-clause-continues : goal.returns-clause-continues
returns-clause-continues c =
    let d = dictionary_of c.args.d.now in
    let old = c.args.m.now in
    let a = c.definition-a.result.now in
    let p = ok_entered (record { jobs = old.jobs; active = old.active; waiting = old.waiting; calls = old.calls; read = c.mark.new.read }) c.enter.new.m c.text_at_top-text.result c.enter.result c.in_ok-enter.field-0 c.in_ok-enter.was c.enter.ensures in
    by_push c.enter.new.m c.push.new.m _ c.push.result _ _ c.push.ensures
    (λ q. defined d c.args.i old c.enter.new.m c.push.new.m c.mark.new.read c.text_at_top-text.result c.len.result _ a c.in_ok-mark.ensures p q refl c.len.ensures (λ (waiting : List m.Activation). c.text_at_top-text.ensures waiting ∙ ap (λ (ts : List Text). m.at_top (first_target ts) c.args.i) c.as_slice.ensures) (sym c.definition-a.ensures))

pub returns-clause-falls : goal.returns-clause-falls
returns-clause-falls c = λ unread.
    let old = c.args.m.now in
    let p = ok_entered (record { jobs = old.jobs; active = old.active; waiting = old.waiting; calls = old.calls; read = c.mark.new.read }) c.enter.new.m c.text_at_top-text.result c.enter.result c.in_ok-enter.field-0 c.in_ok-enter.was c.enter.ensures in
    defines_falls (dictionary_of c.args.d.now) c.args.i old c.enter.new.m c.push.new.m c.mark.new.read c.text_at_top-text.result _ c.push.result c.requires c.in_ok-mark.ensures unread p c.push.ensures
    (ap (λ (t : TopText). expr_weight t.value) c.definition-a.ensures)
