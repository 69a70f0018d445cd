use Rattle.std.proofs.Common.{◌+◌, ◌*◌}
use Rattle.dx_native_fields.proofs.Looking.{AreGoodBefore}
use Rattle.dx_native_fields.specs.Marked.{AreMarked}
use Rattle.dx_native_grammar.specs.Meaning.{tree_at, named_at}
use Rattle.dx_native_walk.specs.Answer.{IsKnown}
use Rattle.dx_native_fields.proofs.walk.+walk.Given as goal

abbrev pub decreases-clause_good : goal.decreases-clause_good
decreases-clause_good l = 4 * l.calls

abbrev pub decreases-named_good : goal.decreases-named_good
decreases-named_good l = 4 * l.calls + 1

abbrev pub decreases-parts_good : goal.decreases-parts_good
decreases-parts_good l = 4 * l.calls + 2

abbrev pub decreases-object_good : goal.decreases-object_good
decreases-object_good l = 4 * l.calls + 3

abbrev pub invariant-parts_good-loop-line : goal.invariant-parts_good-loop-line
invariant-parts_good-loop-line l = record {
  before : AreGoodBefore (named_at l.clauses (tree_at l.clauses l.calls)) l.lines l.line-index;
  known : IsKnown l.clauses l.memo;
  marked : AreMarked l.clauses l.marks;
}
