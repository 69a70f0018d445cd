use Rattle.std.proofs.Common.{◌≡◌, ◌++◌, length}
use Rattle.std.specs.Vec.Iter.{into_iter_items, into_iter_len}
use Rattle.dx_ending.specs.InPlace.{AreShared, changes_in}
use Rattle.dx_ending.proofs.in_place.all_shared.Given as goal

-- the changes that are shared, and those that are left
abbrev pub invariant-loop-change : goal.invariant-loop-change
invariant-loop-change l = record {
  can : (goal.iterator-loop-change).can_next l.change-iterator;
  finite : (goal.iterator-loop-change).is_finite l.change-iterator;
  len : into_iter_len l.change-iterator ≡ length (into_iter_items l.change-iterator);
  so_far : changes_in l.ready.items ++ into_iter_items l.change-iterator ≡ l.fn.changes;
  shared : AreShared l.ready.items;
}
