use Rattle.std.proofs.Common.{Ok, false}
use Rattle.dx_sessions.proofs.Keeping.{keeps_still}
use Rattle.dx_sessions.proofs.session.Session.step.Goals as goal

pub returns-in-Ended-clause-keeps : goal.returns-in-Ended-clause-keeps
returns-in-Ended-clause-keeps g c = keeps_still c.args.self.now.state _ (Ok false) tt c.requires.fits
