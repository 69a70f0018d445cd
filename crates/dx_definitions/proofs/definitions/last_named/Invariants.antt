use Rattle.std.proofs.Common.{map}
use Rattle.dx_definitions.specs.Index.{text_of}
use Rattle.dx_definitions.proofs.Looking.{AreLeft}
use Rattle.dx_definitions.proofs.definitions.last_named.Given as goal

abbrev pub invariant-loop-left : goal.invariant-loop-left
invariant-loop-left l = AreLeft l.positions l.left (map text_of l.definitions) l.position l.name

abbrev pub decreases-loop-left : goal.decreases-loop-left
decreases-loop-left l = l.left
