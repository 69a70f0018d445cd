use Rattle.std.proofs.Common.{◌≡◌, ◌≤◌, length}
use Rattle.std.specs.Vec.Iter.{into_iter_items, into_iter_len}
use Rattle.dx_links.specs.LinkMap.{after}
use Rattle.dx_links.proofs.slots.Slots.commit.Given as goal

-- what is left is still to be made, and there is room for it
abbrev pub invariant-loop-change : goal.invariant-loop-change
invariant-loop-change l = record {
  can : (goal.iterator-loop-change).can_next l.change-iterator;
  finite : (goal.iterator-loop-change).is_finite l.change-iterator;
  len : into_iter_len l.change-iterator ≡ length (into_iter_items l.change-iterator);
  room : length (into_iter_items l.change-iterator) ≤ l.self.room;
  so_far : after l.self.links (into_iter_items l.change-iterator) ≡ after l.fn.self.links l.fn.changes;
}
