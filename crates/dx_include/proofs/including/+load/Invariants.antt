use Rattle.std.proofs.Common.{◌≡◌, ◌+◌, ◌*◌, ◌≤◌, Some, length}
use Rattle.std.specs.Vec.Iter.{into_iter_items, into_iter_len}
use Rattle.dx_io.specs.Devices.{FileMap}
use Rattle.dx_ast.specs.Lawful.{AreLawful}
use Rattle.dx_ast.specs.Plain.{plain_stmts}
use Rattle.dx_include.specs.Computed.{load_within, splice}
use Rattle.dx_include.proofs.Splicing.{SoFar}
use Rattle.dx_include.proofs.including.+load.Given as goal

abbrev pub decreases-load_file : goal.decreases-load_file
decreases-load_file g l = 2 * l.levels

abbrev pub decreases-splice : goal.decreases-splice
decreases-splice g l = 2 * l.levels + 1

abbrev pub invariant-splice-each : goal.invariant-splice-each
invariant-splice-each g l = record {
  can : (goal.iterator-splice-each g).can_next l.statement-iterator;
  finite : (goal.iterator-splice-each g).is_finite l.statement-iterator;
  len : into_iter_len l.statement-iterator ≡ length (into_iter_items l.statement-iterator);
  few : l.loaded.bytes ≤ 16777216;
  lawful : AreLawful (plain_stmts l.loaded.statements);
  lawful_rest : AreLawful (plain_stmts (into_iter_items l.statement-iterator));
  same : g.F.Files.content l.files ≡ g.F.Files.content l.initial.files;
  faults : g.F.Files.faults l.files ≡ g.F.Files.faults l.initial.files;
  so_far : (map : FileMap) → g.F.Files.content l.initial.files ≡ Some map
      → SoFar (load_within l.levels map) (splice (load_within l.levels map) l.fn.statements l.initial.loaded) (into_iter_items l.statement-iterator) l.loaded (g.F.Files.asked l.initial.files) (g.F.Files.asked l.files);
}
