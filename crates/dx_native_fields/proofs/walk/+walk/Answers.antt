use Rattle.std.proofs.Common.{true, sym, subst, arith, rules}
use Rattle.std.specs.Prelude.{slice_get}
use Rattle.std.proofs.lemmas.Option.{slice_get_past}
use Rattle.dx_native_grammar.specs.Meaning.{tree_at, named_at}
use Rattle.dx_native_meaning.proofs.OneLevel.{no_levels, no_clause}
use Rattle.dx_native_fields.specs.Marked.{AreMarked}
use Rattle.dx_native_fields.proofs.Looking.{one_before, not_good, object_tells, one_level, marked_by, nothing_meant}
use Rattle.dx_native_fields.proofs.walk.+walk.Goals as goal
use Rattle.dx_native_fields.proofs.walk.+walk.Goals.{clause_good-then-calls-eq0-via-then-calls-eq0, clause_good-then-calls-eq0-via-else-calls-eq0+then-i-len}

pub parts_good-returns-then-not-branch-clause-tells : goal.parts_good-returns-then-not-branch-clause-tells
parts_good-returns-then-not-branch-clause-tells t c =
    not_good (named_at c.args.clauses.now (tree_at c.args.clauses.now c.args.calls)) c.args.lines.now c.loop-line.line-index c.line-item.result c.in_ok-named_good.field-0 c.loop-line-test.true c.line-item.is c.in_ok-named_good.ensures.tells c.if-not-branch.true c.loop-line.invariant.before

pub parts_good-loop-line-preserved : goal.parts_good-loop-line-preserved
parts_good-loop-line-preserved t c = record {
  before = one_before (named_at c.args.clauses.now (tree_at c.args.clauses.now c.args.calls)) c.args.lines.now c.loop-line.line-index c.line-item.result c.in_ok-named_good.field-0 c.loop-line-test.true c.line-item.is c.in_ok-named_good.ensures.tells c.if-not-branch.false c.loop-line.invariant.before;
  known = c.in_ok-named_good.ensures.known;
  marked = c.in_ok-named_good.ensures.marked;
}

pub object_good-returns-in-Ok-clause-good : goal.object_good-returns-in-Ok-clause-good
object_good-returns-in-Ok-clause-good t c =
    object_tells c.args.calls (named_at c.args.clauses.now (tree_at c.args.clauses.now c.args.calls)) (slice_get c.args.clauses.now c.args.i) c.args.object.now c.lines.result.now c.parts_good.result c.requires.means c.in-Ok.ensures c.lines.ensures c.parts_good.ensures.tells

pub clause_good-returns-then-calls-eq0-clause-tells : goal.clause_good-returns-then-calls-eq0-clause-tells
clause_good-returns-then-calls-eq0-clause-tells t c = elim c.then-calls-eq0.branch [
  | clause_good-then-calls-eq0-via-then-calls-eq0 w ↦ nothing_meant (tree_at c.args.clauses.now c.args.calls c.args.i) true (no_levels c.args.clauses.now c.args.i c.args.calls w.if-calls-eq0.true)
  | clause_good-then-calls-eq0-via-else-calls-eq0+then-i-len w ↦ nothing_meant (tree_at c.args.clauses.now c.args.calls c.args.i) true (no_clause c.args.clauses.now c.args.i c.args.calls (let many = w.len.ensures in let past = w.if-i-len.true in slice_get_past c.args.clauses.now c.args.i (omega arith)))
]

pub clause_good-object_good-requires : goal.clause_good-object_good-requires
clause_good-object_good-requires t c = (
  omega arith,
  (search rules, (c.requires.marked, one_level c.args.clauses.now c.args.i c.args.calls c.deref.result.now (omega arith) (search rules))),
)

pub clause_good-returns-clause-marked : goal.clause_good-returns-clause-marked
clause_good-returns-clause-marked t c =
    subst (λ (m : _). AreMarked c.args.clauses.now m) (sym c.mark.ensures)
    (marked_by c.args.clauses.now c.object_good.new.marks c.args.i c.args.calls c.deref.result.now c.in_ok-good.good c.in_ok-good.ensures.marked (search rules) (search rules) c.in_ok-good.ensures.good c.if-not-good.false)
