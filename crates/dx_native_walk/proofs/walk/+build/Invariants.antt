use Rattle.std.proofs.Common.{◌≡◌, ◌+◌, ◌*◌, drop}
use Rattle.dx_native_grammar.specs.Meaning.{tree_at, named_at, parts_at, attributes_at}
use Rattle.dx_native_walk.specs.Answer.{IsKnown}
use Rattle.dx_native_walk.proofs.Lists.{after}
use Rattle.dx_native_walk.proofs.walk.+build.Given as goal

abbrev pub decreases-build : goal.decreases-build
decreases-build l = 6 * l.calls

abbrev pub decreases-named : goal.decreases-named
decreases-named l = 6 * l.calls + 1

abbrev pub decreases-given : goal.decreases-given
decreases-given l = 6 * l.calls + 2

abbrev pub decreases-parts : goal.decreases-parts
decreases-parts l = 6 * l.calls + 3

abbrev pub decreases-attributes : goal.decreases-attributes
decreases-attributes l = 6 * l.calls + 3

abbrev pub decreases-body_object : goal.decreases-body_object
decreases-body_object l = 6 * l.calls + 4

abbrev pub decreases-object_of : goal.decreases-object_of
decreases-object_of l = 6 * l.calls + 5

abbrev pub invariant-parts-loop-line : goal.invariant-parts-loop-line
invariant-parts-loop-line l = record {
  same : after l.parts (parts_at (named_at l.clauses (tree_at l.clauses l.calls)) (drop l.line-index l.lines)) ≡ parts_at (named_at l.clauses (tree_at l.clauses l.calls)) l.lines;
  known : IsKnown l.clauses l.memo;
}

abbrev pub invariant-attributes-loop-line : goal.invariant-attributes-loop-line
invariant-attributes-loop-line l = record {
  same : after l.parts (attributes_at l.calls (named_at l.clauses (tree_at l.clauses l.calls)) (drop l.line-index l.lines)) ≡ attributes_at l.calls (named_at l.clauses (tree_at l.clauses l.calls)) l.lines;
  known : IsKnown l.clauses l.memo;
}
