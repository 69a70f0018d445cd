use Rattle.std.proofs.Common.{◌≡◌, ◌≤◌}
use Rattle.dx_links.specs.Emptied.{front_held}
use Rattle.dx_links.proofs.settling.tag_by_places.Given as goal

-- so many links have the tags of their places
abbrev pub invariant-loop-k : goal.invariant-loop-k
invariant-loop-k l = record {
  links : l.slots.links ≡ front_held l.k 0 l.fn.slots.links;
  room : l.fn.slots.room ≤ l.slots.room;
}
