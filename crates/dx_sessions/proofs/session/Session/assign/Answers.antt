use Rattle.std.proofs.Common.{Ok, Err, false}
use Rattle.std.proofs.lemmas.Result.{err_from_is_err_and}
use Rattle.dx_making.specs.declared.end.End.TheVariants.{Memory}
use Rattle.dx_sessions.specs.Does.{devices}
use Rattle.dx_sessions.proofs.Joining.{same_definitions}
use Rattle.dx_sessions.proofs.Keeping.{keeps_still}
use Rattle.dx_sessions.proofs.session.Session.assign.Goals as goal

pub returns-in_err-add-clause-does : goal.returns-in_err-add-clause-does
returns-in_err-add-clause-does g c = λ x answers files sound.
    let p = err_from_is_err_and c.from_residual.result c.from_residual.ensures.1 in
    let was = devices (g.L.Library.done c.args.lib.now) (g.F.Files.asked c.args.files.now) (g.O.Sink.written c.args.out.now) (g.X.Exports.puts c.args.exports.now) in
    rw p.1 (same_definitions _ x c.args.self.now.listings _ was c.args.self.now c.add.new.self _ c.in_err-add.ensures.err sound)

pub returns-in_err-add-clause-keeps : goal.returns-in_err-add-clause-keeps
returns-in_err-add-clause-keeps g c =
    let p = err_from_is_err_and c.from_residual.result c.from_residual.ensures.1 in
    rw (p.1, p.2) (keeps_still c.args.self.now.state _ (Err Memory) tt c.requires.fits)

pub returns-clause-keeps : goal.returns-clause-keeps
returns-clause-keeps g c = keeps_still c.args.self.now.state _ (Ok false) tt c.requires.fits
