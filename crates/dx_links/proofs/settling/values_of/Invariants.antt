use Rattle.std.proofs.Common.{◌≡◌, take}
use Rattle.dx_links.specs.Emptied.{values_held}
use Rattle.dx_links.proofs.settling.values_of.Given as goal

-- the values of so many links are shared
abbrev pub invariant-loop-k : goal.invariant-loop-k
invariant-loop-k l = l.held ≡ values_held (take l.k l.slots.links)
