use Rattle.std.proofs.Common.{◌≡◌, length}
use Rattle.std.specs.Vec.Iter.{into_iter_items, into_iter_len}
use Rattle.dx_ast.specs.Lawful.{AreLawful}
use Rattle.dx_ast.specs.Plain.{plain_stmts}
use Rattle.dx_engine_tests.proofs.script.join_all.Given as goal

abbrev pub invariant-each : goal.invariant-each
invariant-each l = record {
  can : goal.iterator-each.can_next l.s-iterator;
  finite : goal.iterator-each.is_finite l.s-iterator;
  len : into_iter_len l.s-iterator ≡ length (into_iter_items l.s-iterator);
  lawful : AreLawful (plain_stmts (into_iter_items l.s-iterator));
}
