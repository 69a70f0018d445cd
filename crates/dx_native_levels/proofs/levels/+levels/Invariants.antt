use Rattle.std.proofs.Common.{◌≡◌, ◌+◌, ◌*◌, ◌≤◌, drop}
use Rattle.std.specs.Prelude.{option_map}
use Rattle.dx_base.specs.Object.{deepest}
use Rattle.dx_native_grammar.specs.Meaning.{tree_at, named_at, parts_at, attributes_at}
use Rattle.dx_native_levels.specs.Levels.{IsCounted}
use Rattle.dx_native_levels.proofs.Raised.{raised}
use Rattle.dx_native_levels.proofs.levels.+levels.Given as goal

abbrev pub decreases-levels : goal.decreases-levels
decreases-levels l = 6 * l.calls

abbrev pub decreases-named_levels : goal.decreases-named_levels
decreases-named_levels l = 6 * l.calls + 1

abbrev pub decreases-given_levels : goal.decreases-given_levels
decreases-given_levels l = 6 * l.calls + 2

abbrev pub decreases-part_levels : goal.decreases-part_levels
decreases-part_levels l = 6 * l.calls + 3

abbrev pub decreases-attribute_levels : goal.decreases-attribute_levels
decreases-attribute_levels l = 6 * l.calls + 3

abbrev pub decreases-body_levels : goal.decreases-body_levels
decreases-body_levels l = 6 * l.calls + 4

abbrev pub decreases-clause_levels : goal.decreases-clause_levels
decreases-clause_levels l = 6 * l.calls + 5

abbrev pub invariant-part_levels-loop-part : goal.invariant-part_levels-loop-part
invariant-part_levels-loop-part l = record {
  same : raised l.deepest (option_map deepest (parts_at (named_at l.clauses (tree_at l.clauses l.calls)) (drop l.part-index l.parts))) ≡ option_map deepest (parts_at (named_at l.clauses (tree_at l.clauses l.calls)) l.parts);
  few : l.deepest ≤ l.calls;
  known : IsCounted l.clauses l.known;
}

abbrev pub invariant-attribute_levels-loop-attribute : goal.invariant-attribute_levels-loop-attribute
invariant-attribute_levels-loop-attribute l = record {
  same : raised l.deepest (option_map deepest (attributes_at l.calls (named_at l.clauses (tree_at l.clauses l.calls)) (drop l.attribute-index l.attributes))) ≡ option_map deepest (attributes_at l.calls (named_at l.clauses (tree_at l.clauses l.calls)) l.attributes);
  few : l.deepest ≤ l.calls;
  known : IsCounted l.clauses l.known;
}
