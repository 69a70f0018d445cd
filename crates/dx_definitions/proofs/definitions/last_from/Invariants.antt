use Rattle.std.proofs.Common.{◌≡◌, ◌≤◌, map}
use Rattle.dx_definitions.specs.TopTexts.{last_named}
use Rattle.dx_definitions.specs.Index.{text_of}
use Rattle.dx_definitions.proofs.definitions.last_from.Given as goal

abbrev pub invariant-loop-left : goal.invariant-loop-left
invariant-loop-left l = record {
  above : l.from ≤ l.left;
  same : last_named (map text_of l.definitions) l.left l.name ≡ last_named (map text_of l.definitions) l.position l.name;
}

abbrev pub decreases-loop-left : goal.decreases-loop-left
decreases-loop-left l = l.left
