use Rattle.std.proofs.Common.{◌≡◌, ◌++◌}
use Rattle.std.specs.Vec.Iter.{into_iter_items}
use Rattle.dx_native_clauses.specs.Outline.{outlines, clause_arrays}
use Rattle.dx_native_clauses.proofs.outline.all_apart.Given as goal

abbrev pub invariant-loop-clause : goal.invariant-loop-clause
invariant-loop-clause l = record {
  outlines : l.outlines ++ outlines (into_iter_items l.clause-iterator) ≡ outlines l.fn.clauses.items;
  arrays : l.arrays.items ++ clause_arrays (into_iter_items l.clause-iterator) ≡ clause_arrays l.fn.clauses.items;
}
