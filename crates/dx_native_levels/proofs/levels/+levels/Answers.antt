use Rattle.std.proofs.Common.{◌≡◌, suc, ◌+◌, max, Some, ap, sym, subst, ◌∙◌, arith}
use Rattle.std.specs.Prelude.{option_map}
use Rattle.dx_base.specs.Object.{levels as spec_levels, deepest}
use Rattle.dx_native_grammar.specs.Meaning.{attributes_at, named_at, tree_at}
use Rattle.dx_native_meaning.proofs.OneLevel.{no_levels, no_clause, one_level}
use Rattle.dx_native_levels.specs.Levels.{CountedAt, IsCounted}
use Rattle.dx_native_levels.proofs.Raised.{clause_both, within, hit, counted_set}
use Rattle.dx_native_levels.proofs.levels.+levels.Goals as goal

pub clause_levels-returns-clause-levels : goal.clause_levels-returns-clause-levels
clause_levels-returns-clause-levels t c =
    let m : 1 + c.max.result ≡ suc (max c.in_ok-parts.parts c.in_ok-others.others) = omega (arith, c.max.ensures) in
    ap (λ n. Some n) m ∙ sym (clause_both c.args.calls (named_at c.args.clauses.now (tree_at c.args.clauses.now c.args.calls)) c.args.clause.now (Some c.in_ok-parts.parts) (Some c.in_ok-others.others) c.in_ok-parts.ensures.levels (c.in_ok-others.ensures.levels ∙ ap (λ xs. option_map deepest (attributes_at c.args.calls (named_at c.args.clauses.now (tree_at c.args.clauses.now c.args.calls)) xs)) c.as_slice.ensures))

pub levels-returns-in_err-clause-clause-levels : goal.levels-returns-in_err-clause-clause-levels
levels-returns-in_err-clause-clause-levels t c =
    c.from_residual.ensures ∙ sym (ap (option_map spec_levels) (no_clause c.args.clauses.now c.args.i c.args.calls c.in_err-clause.ensures))

pub levels-known_levels-before-requires : goal.levels-known_levels-before-requires
levels-known_levels-before-requires t c = within c.args.clauses.now c.args.known.now c.args.i c.in_ok-clause.clause.now c.requires.known c.in_ok-clause.ensures

pub levels-returns-then-before-gt0-clause-levels : goal.levels-returns-then-before-gt0-clause-levels
levels-returns-then-before-gt0-clause-levels t c =
    hit c.args.clauses.now c.args.i c.args.calls c.known_levels-before.result (subst (CountedAt c.args.clauses.now c.args.i) (sym c.known_levels-before.ensures) (c.requires.known.each c.args.i))
    c.if-before-gt0.true c.at_most.result c.at_most.ensures.few c.at_most.ensures.many

pub levels-returns-then-calls-eq0-clause-levels : goal.levels-returns-then-calls-eq0-clause-levels
levels-returns-then-calls-eq0-clause-levels t c = sym (ap (option_map spec_levels) (no_levels c.args.clauses.now c.args.i c.args.calls c.if-calls-eq0.true))

pub levels-returns-in_err-count-clause-levels : goal.levels-returns-in_err-count-clause-levels
levels-returns-in_err-count-clause-levels t c =
    c.from_residual-in_err-count.ensures ∙ c.in_err-count.ensures.levels
    ∙ sym (ap (option_map spec_levels) (one_level c.args.clauses.now c.args.i c.args.calls c.in_ok-clause.clause.now (omega arith) c.in_ok-clause.ensures))

pub levels-set_levels-requires : goal.levels-set_levels-requires
levels-set_levels-requires t c = within c.args.clauses.now c.clause_levels.new.known c.args.i c.in_ok-clause.clause.now c.in_ok-count.ensures.known c.in_ok-clause.ensures

pub levels-returns-clause-levels : goal.levels-returns-clause-levels
levels-returns-clause-levels t c = c.in_ok-count.ensures.levels ∙ sym (ap (option_map spec_levels) (one_level c.args.clauses.now c.args.i c.args.calls c.in_ok-clause.clause.now (omega arith) c.in_ok-clause.ensures))

pub levels-returns-clause-known : goal.levels-returns-clause-known
levels-returns-clause-known t c =
    let w = within c.args.clauses.now c.clause_levels.new.known c.args.i c.in_ok-clause.clause.now c.in_ok-count.ensures.known c.in_ok-clause.ensures in
    let e = c.in_ok-count.ensures.levels ∙ sym (ap (option_map spec_levels) (one_level c.args.clauses.now c.args.i c.args.calls c.in_ok-clause.clause.now (omega arith) c.in_ok-clause.ensures)) in
    subst (IsCounted c.args.clauses.now) (sym c.set_levels.ensures) (counted_set c.args.clauses.now c.clause_levels.new.known c.args.i c.args.calls c.in_ok-count.count c.in_ok-count.ensures.known w e)
