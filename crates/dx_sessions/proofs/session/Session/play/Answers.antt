use Rattle.std.proofs.Common.{◌∙◌, true, refl, ap, sym, subst, append-nil}
use Rattle.dx_io.specs.Devices.{Grows, GrowsInto}
use Rattle.dx_sequencer.specs.Sequencer as seq
use Rattle.dx_shown.specs.Session.{with_sequencer}
use Rattle.dx_telling.specs.Shown.{play_too_long}
use Rattle.dx_sessions.specs.Does.{devices}
use Rattle.dx_sessions.specs.SessionView.{state_of}
use Rattle.dx_sessions.proofs.Keeping.{line_cut, line_kept}
use Rattle.dx_sessions.proofs.Refusing.{long_done, long_cut, short_does}
use Rattle.dx_sessions.proofs.session.Session.play.Goals as goal

pub returns-in-Ok-clause-does : goal.returns-in-Ok-clause-does
returns-in-Ok-clause-does g c = λ x answers files sound.
    let st = state_of c.args.self.now in
    let was = devices (g.L.Library.done c.args.lib.now) (g.F.Files.asked c.args.files.now) (g.O.Sink.written c.args.out.now) (g.X.Exports.puts c.args.exports.now) in
    let now = devices (g.L.Library.done c.args.lib.now) (g.F.Files.asked c.args.files.now) (g.O.Sink.written c.write_all.new.out) (g.X.Exports.puts c.args.exports.now) in
    long_done x c.args.self.now.listings st _ was now c.in-None.ensures.refused (ap (λ (s : seq.State). with_sequencer s st) c.in-None.ensures.unchanged) sound
    (subst (Grows (g.O.Sink.written c.args.out.now) (g.O.Sink.written c.write_all.new.out)) (c.play_too_long.ensures ∙ sym (append-nil play_too_long)) c.in-Ok.ensures.writes)
    (record { told = refl; puts = refl })

pub returns-in-Ok-clause-keeps : goal.returns-in-Ok-clause-keeps
returns-in-Ok-clause-keeps g c = line_kept c.args.self.now.state _ (g.O.Sink.faults c.write_all.new.out) tt true c.requires.fits c.in-Ok.ensures.cause

pub returns-in-Err-clause-keeps : goal.returns-in-Err-clause-keeps
returns-in-Err-clause-keeps g c = line_cut c.args.self.now.state _ (g.O.Sink.faults c.write_all.new.out) c.in-Err.fail c.from.result c.requires.fits c.from.ensures c.in-Err.ensures.cause

pub returns-in-Some-clause-does : goal.returns-in-Some-clause-does
returns-in-Some-clause-does g c = λ x answers files sound.
    let st = state_of c.args.self.now in
    let was = devices (g.L.Library.done c.args.lib.now) (g.F.Files.asked c.args.files.now) (g.O.Sink.written c.args.out.now) (g.X.Exports.puts c.args.exports.now) in
    let now = devices (g.L.Library.done c.step_often.new.lib) (g.F.Files.asked c.step_often.new.files) (g.O.Sink.written c.step_often.new.out) (g.X.Exports.puts c.step_often.new.exports) in
    short_does x c.args.self.now.listings st (with_sequencer c.begin_play.new.self st) c.step_often.new.self c.in-Some.steps was now c.step_often.result c.in-Some.ensures.steps c.in-Some.ensures.few
    (ap (λ (s : seq.State). with_sequencer s st) c.in-Some.ensures.state) (c.step_often.ensures.does x answers files sound)

pub returns-in-Err-clause-does : goal.returns-in-Err-clause-does
returns-in-Err-clause-does g c = λ x answers files sound.
    let st = state_of c.args.self.now in
    let was = devices (g.L.Library.done c.args.lib.now) (g.F.Files.asked c.args.files.now) (g.O.Sink.written c.args.out.now) (g.X.Exports.puts c.args.exports.now) in
    let now = devices (g.L.Library.done c.args.lib.now) (g.F.Files.asked c.args.files.now) (g.O.Sink.written c.write_all.new.out) (g.X.Exports.puts c.args.exports.now) in
    long_cut _ x c.args.self.now.listings st was now _ c.in-None.ensures.refused (ap (λ (s : seq.State). with_sequencer s st) c.in-None.ensures.unchanged) sound
    (subst (GrowsInto (g.O.Sink.written c.args.out.now) (g.O.Sink.written c.write_all.new.out)) (c.play_too_long.ensures ∙ sym (append-nil play_too_long)) c.in-Err.ensures.writes)
    (record { told = refl; puts = refl })
