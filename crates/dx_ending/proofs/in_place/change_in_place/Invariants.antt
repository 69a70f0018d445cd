use Rattle.std.proofs.Common.{◌≡◌, length}
use Rattle.std.specs.Vec.Iter.{into_iter_items, into_iter_len}
use Rattle.dx_links.specs.LinkMap.{after}
use Rattle.dx_getting.specs.Terms.{BoundValues}
use Rattle.dx_getting.specs.Bound.{IsBound}
use Rattle.dx_ending.specs.InPlace.{HasRoom, AreShared, ComeFrom, changes_in}
use Rattle.dx_ending.proofs.in_place.change_in_place.Given as goal

-- what is left is still to be made, and there is room for it
abbrev pub invariant-loop-change : goal.invariant-loop-change
invariant-loop-change l = record {
  can : (goal.iterator-loop-change).can_next l.change-iterator;
  finite : (goal.iterator-loop-change).is_finite l.change-iterator;
  len : into_iter_len l.change-iterator ≡ length (into_iter_items l.change-iterator);
  room : HasRoom l.links l.bound (length (into_iter_items l.change-iterator));
  shared : AreShared (into_iter_items l.change-iterator);
  bound : IsBound l.links.links l.bound;
  so_far : after l.links.links (changes_in (into_iter_items l.change-iterator)) ≡ after l.fn.links.links (changes_in l.fn.ready.changes.items);
  from : (new : BoundValues) → ComeFrom (changes_in (into_iter_items l.change-iterator)) l.bound.pairs new → ComeFrom (changes_in l.fn.ready.changes.items) l.fn.bound.pairs new;
  held : l.links.held ≡ l.fn.links.held;
  kept_from : l.bound.from ≡ l.fn.bound.from;
}
