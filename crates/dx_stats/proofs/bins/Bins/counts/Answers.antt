use Rattle.std.proofs.Common.{ℤ, pos, get_or, FitsSigned, w64, arith, rules}
use Rattle.std.proofs.lemmas.Int.{to_z-of_z}
use Rattle.dx_stats.proofs.CountLaws.{no_counts, tally_step, counts_few, counts_some, all_counts}
use Rattle.dx_stats.proofs.bins.Bins.counts.Goals as goal

pub loop-value-init : goal.loop-value-init
loop-value-init c = no_counts c.args.self c.args.values.now _ c.in_ok-counts.ensures

pub tally-requires-clause-some : goal.tally-requires-clause-some
tally-requires-clause-some c = counts_some c.args.self c.args.values.now _ c.loop-value.value-index c.loop-value.invariant

pub tally-requires-clause-few : goal.tally-requires-clause-few
tally-requires-clause-few c = counts_few c.args.self c.args.values.now _ c.loop-value.value-index c.loop-value.invariant (omega arith) c.requires.few

pub loop-value-preserved : goal.loop-value-preserved
loop-value-preserved c =
    let v : ℤ = get_or c.args.values.now c.loop-value.value-index (pos 0) in
    let fits : FitsSigned w64 v = search rules in
    tally_step c.args.self c.args.values.now c.loop-value.value-index c.loop-value-test.true _ _ c.requires.bins (rw (to_z-of_z w64 v fits) at c.tally.ensures) c.loop-value.invariant

pub returns : goal.returns
returns c = all_counts c.args.self c.args.values.now c.loop-value.value-index _ (omega arith) c.loop-value.invariant
