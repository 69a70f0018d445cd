use Rattle.std.proofs.Common.{subst}
use Rattle.dx_engine.specs.Leaving.{PreparedSo}
use Rattle.dx_engine.proofs.Finished.{left_emptied}
use Rattle.dx_engine.proofs.state.State.keep.Goals as goal

pub returns-in-Emptied-clause-left : goal.returns-in-Emptied-clause-left
returns-in-Emptied-clause-left c = λ changes full behind so.
    let is = subst (PreparedSo c.args.self.now.links.links changes full behind) c.in-Emptied.is so in
    let e = c.empty.ensures in
    left_emptied c.args.self.now _ changes c.in-Emptied.changes full behind is.0 is.1 e.links e.held e.from e.pairs e.counts e.terms e.entries e.budget e.events
