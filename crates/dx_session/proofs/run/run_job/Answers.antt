use Rattle.std.proofs.Common.{sym, ◌∙◌}
use Rattle.dx_outcome.specs.Computed.{job_loading}
use Rattle.dx_sessions.specs.Does.{devices}
use Rattle.dx_session.proofs.Ending.{cut_ends, refused_ends}
use Rattle.dx_session.proofs.run.run_job.Goals as goal

pub returns-in-Some-clause-ends : goal.returns-in-Some-clause-ends
returns-in-Some-clause-ends g c = λ map told.
    let was = devices (g.L.Library.done c.args.lib.now) (g.F.Files.asked c.args.files.now) (g.O.Sink.written c.args.out.now) (g.X.Exports.puts c.args.exports.now) in
    cut_ends g.L.Library.answer map c.args.said.now (job_loading map c.args.said.now.job) c.in-Err.why c.in-Some.end was (g.F.Files.asked c.load_job.new.files)
    (sym c.cut_by.ensures ∙ c.in-Some.is) (c.in-Err.ensures.loading map told)

pub returns-clause-ends : goal.returns-clause-ends
returns-clause-ends g c = λ map told.
    let was = devices (g.L.Library.done c.args.lib.now) (g.F.Files.asked c.args.files.now) (g.O.Sink.written c.args.out.now) (g.X.Exports.puts c.args.exports.now) in
    refused_ends g.L.Library.answer map c.args.said.now c.refuse.result (job_loading map c.args.said.now.job) c.in-Err.why was (g.F.Files.asked c.load_job.new.files) (g.O.Sink.written c.refuse.new.out)
    (sym c.cut_by.ensures ∙ c.in-None.is) (c.in-Err.ensures.loading map told) c.refuse.ensures.prints c.refuse.ensures.status
