use Rattle.std.proofs.Common.{rules, arith, sym, ◌∙◌}
use Rattle.std.proofs.lemmas.Grind.{common_steps}
use Rattle.std.proofs.lemmas.Result.{err_from_is_err_and}
use Rattle.dx_places.proofs.Loops.{goes_on, breaks, ends, fewer}
use Rattle.dx_native_lex.proofs.Exits.{exit}
use Rattle.dx_native_grammar.specs.Grammar.{file_clauses, sees_next, file_next, file_some}
use Rattle.dx_native_clauses.proofs.file.file_clauses.Goals as goal

pub loop-alloc-init : goal.loop-alloc-init
unfolding file_clauses
loop-alloc-init c = first_of (search rules, grind (arith, common_steps))

pub returns-in_err-found : goal.returns-in_err-found
returns-in_err-found c =
    let p = err_from_is_err_and c.from_residual.result c.from_residual.ensures.1 in
    exit _ (file_clauses.read c.args.cursor.now) _ _ _ _ p.1 p.2 c.in_err-found.ensures (λ f r. breaks sees_next file_next file_some _ _ _ f c.loop-alloc.invariant (sym c.sees_next.ensures ∙ c.loop-alloc-test.true) r)

pub loop-alloc-smaller : goal.loop-alloc-smaller
loop-alloc-smaller c = fewer sees_next file_next file_some _ _ _ _ c.in_ok-found.ensures

pub loop-alloc-preserved : goal.loop-alloc-preserved
loop-alloc-preserved c = goes_on sees_next file_next file_some _ _ _ _ _ c.loop-alloc.invariant (sym c.sees_next.ensures ∙ c.loop-alloc-test.true) c.in_ok-found.ensures

pub returns : goal.returns
returns c = ends sees_next file_next file_some _ _ _ c.loop-alloc.invariant (sym c.sees_next.ensures ∙ c.loop-alloc-test.false)
