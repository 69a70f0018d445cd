use Rattle.std.proofs.Common.{◌≡◌, ◌≤◌, length}
use Rattle.std.specs.Vec.Iter.{into_iter_items, into_iter_len}
use Rattle.dx_ending.specs.Putting.{exports_of}
use Rattle.dx_ending.proofs.PutLaws.{ArePutSoFar}
use Rattle.dx_ending.proofs.puts.make_puts.Given as goal

-- what is left is still to be put, and there is room for it
abbrev pub invariant-loop-put : goal.invariant-loop-put
invariant-loop-put g l = record {
  can : (goal.iterator-loop-put g).can_next l.put-iterator;
  finite : (goal.iterator-loop-put g).is_finite l.put-iterator;
  len : into_iter_len l.put-iterator ≡ length (into_iter_items l.put-iterator);
  room : length (into_iter_items l.put-iterator) ≤ l.written.room;
  so_far : ArePutSoFar (g.X.Exports.puts l.fn.exports) (g.X.Exports.puts l.exports) l.fn.written.files l.written.files (exports_of l.fn.puts.items) (exports_of (into_iter_items l.put-iterator));
  faults : g.X.Exports.faults l.exports ≡ g.X.Exports.faults l.fn.exports;
}
