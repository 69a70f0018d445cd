use Rattle.std.proofs.Common.{◌≡◌, List, length, drop}
use Rattle.dx_definitions.specs.TopTexts.{TopText}
use Rattle.dx_definitions.specs.Index.{index_of, noted, Indexes}
use Rattle.dx_definitions.proofs.definitions.note_all.Given as goal

abbrev pub invariant-loop-n : goal.invariant-loop-n
invariant-loop-n l = record {
  ok : noted (index_of l.positions) (drop l.n-index l.names) l.position ≡ noted (index_of l.initial.positions) l.names l.position;
  keeps : (defs : List TopText) → length defs ≡ l.position → Indexes (index_of l.initial.positions) defs → Indexes (index_of l.positions) defs;
}
