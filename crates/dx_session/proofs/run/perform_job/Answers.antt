use Rattle.std.proofs.Common.{Err}
use Rattle.dx_ast.specs.Plain.{plain_stmts}
use Rattle.dx_outcome.specs.Outcome.{shown_of, listings_of}
use Rattle.dx_sessions.specs.Does.{devices}
use Rattle.dx_session.proofs.Seen.{sees_shown, sees_performed}
use Rattle.dx_session.proofs.run.perform_job.Goals as goal

pub returns-in-Ok-clause-sees : goal.returns-in-Ok-clause-sees
returns-in-Ok-clause-sees g c = λ map told.
    sees_performed (listings_of c.args.said.now) c.listings.result (shown_of g.L.Library.answer map c.args.said.now (plain_stmts c.args.statements))
    (devices (g.L.Library.done c.args.lib.now) (g.F.Files.asked c.args.files.now) (g.O.Sink.written c.args.out.now) (g.X.Exports.puts c.args.exports.now))
    (devices (g.L.Library.done c.perform.new.lib) (g.F.Files.asked c.perform.new.files) (g.O.Sink.written c.perform.new.out) (g.X.Exports.puts c.perform.new.exports))
    c.in-Ok.erred c.exit_status.result c.listings.ensures c.exit_status.ensures.is (c.in-Ok.ensures.performs map told)

pub returns-in-Err-clause-sees : goal.returns-in-Err-clause-sees
returns-in-Err-clause-sees g c = λ map told.
    sees_shown (listings_of c.args.said.now) c.listings.result (shown_of g.L.Library.answer map c.args.said.now (plain_stmts c.args.statements))
    (devices (g.L.Library.done c.args.lib.now) (g.F.Files.asked c.args.files.now) (g.O.Sink.written c.args.out.now) (g.X.Exports.puts c.args.exports.now))
    (devices (g.L.Library.done c.perform.new.lib) (g.F.Files.asked c.perform.new.files) (g.O.Sink.written c.perform.new.out) (g.X.Exports.puts c.perform.new.exports))
    (Err c.in-Err.end) c.listings.ensures (c.in-Err.ensures.performs map told)
