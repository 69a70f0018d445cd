use Rattle.std.proofs.Common.{◌≡◌, take}
use Rattle.dx_links.specs.Slots.{links_of}
use Rattle.dx_links.proofs.slots.Slots.copy.Given as goal

-- so many links were copied
abbrev pub invariant-loop-n : goal.invariant-loop-n
invariant-loop-n l = l.slots.items ≡ take l.n-index (links_of l.self-inside.slots.items l.n-items)
