use Rattle.dx_objects.specs.Values.{value_of}
use Rattle.dx_looking.specs.Setting.{fixed}
use Rattle.dx_looking.proofs.Bridge.{may_get, links_denote}
use Rattle.dx_looking.proofs.Telling.{looking_on, with_told}
use Rattle.dx_looking.proofs.SelectorGot.{tells_ok, tells_failed, tells_nothing_by}
use Rattle.dx_looking.proofs.selector.tell_selector.Goals as goal

pub get_value-requires : goal.get_value-requires
get_value-requires g c = record { may = may_get c.args.setup.now c.args.at.now c.requires.looking c.args.t c.requires.value.fits c.requires.found }

pub returns-in_err-tell-in-Ok-clause-gets : goal.returns-in_err-tell-in-Ok-clause-gets
returns-in_err-tell-in-Ok-clause-gets g c = λ map e k right base s f st later same.
    let x = fixed g.L.Library.answer map c.args.at.now.work.cache.budget in
    tells_nothing_by c.args.setup.now x k right base _ _ c.args.at.now s f c.requires.looking st c.args.t c.requires.value c.requires.found later same c.get_value.new.work c.from_residual.result (with_told c.args.at.now c.tell.new.self c.get_value.new.work) c.in-Ok.value c.from_residual.ensures.0
    (c.in-Ok.ensures.gets map e (links_denote c.args.setup.now c.args.at.now c.requires.looking x k st.kept right) base s st.work)

pub returns-in_ok-tell-in-Ok-clause-looking : goal.returns-in_ok-tell-in-Ok-clause-looking
returns-in_ok-tell-in-Ok-clause-looking g c = looking_on c.args.setup.now c.args.at.now c.tell.new.self c.get_value.new.work c.args.t (value_of c.in-Ok.value) c.requires.looking c.requires.value c.in_ok-tell-in-Ok.ensures.ok (c.in-Ok.ensures.calls c.requires.looking.entries)

pub returns-in_ok-tell-in-Ok-clause-gets : goal.returns-in_ok-tell-in-Ok-clause-gets
returns-in_ok-tell-in-Ok-clause-gets g c = λ map e k right base s f st later same.
    let x = fixed g.L.Library.answer map c.args.at.now.work.cache.budget in
    tells_ok c.args.setup.now x k right base _ _ c.args.at.now s f c.requires.looking st c.args.t c.requires.value c.requires.found later same c.get_value.new.work c.tell.new.self c.in-Ok.value c.in_ok-tell-in-Ok.ensures.ok
    (c.in-Ok.ensures.gets map e (links_denote c.args.setup.now c.args.at.now c.requires.looking x k st.kept right) base s st.work)

pub returns-in-Err-clause-gets : goal.returns-in-Err-clause-gets
returns-in-Err-clause-gets g c = λ map e k right base s f st later same.
    let x = fixed g.L.Library.answer map c.args.at.now.work.cache.budget in
    tells_failed c.args.setup.now x k right base _ _ c.args.at.now s f c.requires.looking st c.args.t c.requires.value c.requires.found later same c.get_value.new.work c.in-Err.fail c.failed.result c.failed.ensures
    (c.in-Err.ensures.gets map e (links_denote c.args.setup.now c.args.at.now c.requires.looking x k st.kept right) base s st.work)
