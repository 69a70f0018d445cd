use Rattle.std.proofs.Common.{◌-◌, map, length}
use Rattle.dx_definitions.specs.Index.{text_of, index_of, IsIndexed}
use Rattle.dx_definitions.proofs.definitions.note_new.Given as goal

abbrev pub invariant-loop-noted : goal.invariant-loop-noted
invariant-loop-noted l = IsIndexed l.noted (index_of l.positions) (map text_of l.definitions)

abbrev pub decreases-loop-noted : goal.decreases-loop-noted
decreases-loop-noted l = length l.definitions - l.noted
