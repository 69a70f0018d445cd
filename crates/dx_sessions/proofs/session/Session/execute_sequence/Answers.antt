use Rattle.std.proofs.Common.{Ok, false, ap, option_map}
use Rattle.dx_ast.specs.Plain.{plain_stmt}
use Rattle.dx_shown.specs.Made.{coursed}
use Rattle.dx_shown.specs.Session.{executed}
use Rattle.dx_sessions.specs.Does.{devices}
use Rattle.dx_sessions.specs.SessionView.{state_of}
use Rattle.dx_sessions.proofs.Executions.{sequence_does, shows, shows_erred}
use Rattle.dx_sessions.proofs.Keeping.{keeps_erred, keeps_still}
use Rattle.dx_sessions.proofs.Lawfulness.{lawful_sequence}
use Rattle.dx_sessions.proofs.session.Session.execute_sequence.Goals as goal

pub execute-requires-clause-lawful : goal.execute-requires-clause-lawful
execute-requires-clause-lawful g c = lawful_sequence c.args.self.now.sequence c.in-Some.s c.args.self.now.lawful c.in-Some.is

pub returns-in-None-clause-keeps : goal.returns-in-None-clause-keeps
returns-in-None-clause-keeps g c = keeps_still c.args.self.now.state _ (Ok false) tt c.requires.fits

pub returns-in-Some-clause-keeps : goal.returns-in-Some-clause-keeps
returns-in-Some-clause-keeps g c = keeps_erred c.args.self.now.state c.execute.new.state _ _ c.execute.result c.erred.result c.erred.ensures c.execute.ensures.keeps

pub returns-in-Some-clause-does : goal.returns-in-Some-clause-does
returns-in-Some-clause-does g c = λ x answers files sound.
    let old = c.args.self.now in
    let st = state_of old in
    let s = plain_stmt c.in-Some.s in
    let was = devices (g.L.Library.done c.args.lib.now) (g.F.Files.asked c.args.files.now) (g.O.Sink.written c.args.out.now) (g.X.Exports.puts c.args.exports.now) in
    let now = devices (g.L.Library.done c.execute.new.lib) (g.F.Files.asked c.execute.new.files) (g.O.Sink.written c.execute.new.out) (g.X.Exports.puts c.execute.new.exports) in
    sequence_does x old.listings st (option_map plain_stmt old.sequence) s was now c.erred.result _ (ap (option_map plain_stmt) c.in-Some.is)
    (shows_erred x old.listings st (executed (coursed x) st s) was now c.execute.result c.erred.result _ c.erred.ensures
    (shows x old.listings old c.execute.new.state _ c.frames-frames.result s was now c.execute.result c.frames-frames.ensures (c.execute.ensures.executes x answers files sound)))
