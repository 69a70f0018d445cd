use Rattle.dx_cache.proofs.Holding.{grown_held}
use Rattle.dx_cache.proofs.names.Names.grow.Goals as goal

pub invariant_of-self-2 : goal.invariant_of-self-2
invariant_of-self-2 c = rw c.in_ok-push.ensures.items (grown_held c.self.inside.held.items c.self.inside.table.entries c.self.invariant)
