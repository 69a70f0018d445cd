use Rattle.std.proofs.Common.{rules, arith, sym, ◌∙◌}
use Rattle.std.proofs.lemmas.Grind.{common_steps}
use Rattle.std.proofs.lemmas.Result.{err_from_is_err_and}
use Rattle.dx_places.proofs.Loops.{goes_on, breaks, ends, fewer}
use Rattle.dx_native_lex.proofs.Exits.{exit}
use Rattle.dx_native_grammar.specs.Grammar.{listed, sees_listed, listed_next, listed_some}
use Rattle.dx_native_listing.proofs.listing.listed.Goals as goal

pub loop-alloc-init : goal.loop-alloc-init
unfolding listed
loop-alloc-init c = first_of (search rules, grind (arith, common_steps))

pub returns-in_err-found : goal.returns-in_err-found
returns-in_err-found c =
    let p = err_from_is_err_and c.from_residual.result c.from_residual.ensures.1 in
    exit _ ((listed c.args.listing).read c.args.cursor.now) _ _ _ _ p.1 p.2 c.in_err-found.ensures (λ f r. breaks (sees_listed c.args.listing) (listed_next c.args.listing) (listed_some c.args.listing) _ _ _ f c.loop-alloc.invariant (sym c.sees_listed.ensures ∙ c.loop-alloc-test.true) r)

pub loop-alloc-smaller : goal.loop-alloc-smaller
loop-alloc-smaller c = fewer (sees_listed c.args.listing) (listed_next c.args.listing) (listed_some c.args.listing) _ _ _ _ c.in_ok-found.ensures

pub loop-alloc-preserved : goal.loop-alloc-preserved
loop-alloc-preserved c = goes_on (sees_listed c.args.listing) (listed_next c.args.listing) (listed_some c.args.listing) _ _ _ _ _ c.loop-alloc.invariant (sym c.sees_listed.ensures ∙ c.loop-alloc-test.true) c.in_ok-found.ensures

pub returns : goal.returns
returns c = ends (sees_listed c.args.listing) (listed_next c.args.listing) (listed_some c.args.listing) _ _ _ c.loop-alloc.invariant (sym c.sees_listed.ensures ∙ c.loop-alloc-test.false)
