use Rattle.dx_ast.specs.Plain.{plain_stmt}
use Rattle.dx_sessions.specs.Does.{devices}
use Rattle.dx_sessions.proofs.Executions.{shows}
use Rattle.dx_sessions.proofs.session.Session.execute.Goals as goal

pub returns-clause-does : goal.returns-clause-does
returns-clause-does g c = λ x answers files sound.
    let was = devices (g.L.Library.done c.args.lib.now) (g.F.Files.asked c.args.files.now) (g.O.Sink.written c.args.out.now) (g.X.Exports.puts c.args.exports.now) in
    let now = devices (g.L.Library.done c.execute.new.lib) (g.F.Files.asked c.execute.new.files) (g.O.Sink.written c.execute.new.out) (g.X.Exports.puts c.execute.new.exports) in
    shows x c.args.self.now.listings c.args.self.now c.execute.new.state _ c.frames-frames.result (plain_stmt c.args.s.now) was now c.execute.result c.frames-frames.ensures (c.execute.ensures.executes x answers files sound)
