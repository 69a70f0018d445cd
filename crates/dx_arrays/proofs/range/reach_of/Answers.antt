use Rattle.std.proofs.Common.{◌≡◌, ◌<◌, ◌+◌, ◌-◌, ◌*◌, ◌^◌, pos, ◌*ℤ◌, ℤ, length, get_or, FitsSigned, w64, arith, rules}
use mir.Syntax.{w128}
use Rattle.std.proofs.lemmas.Int.{to_z-of_z}
use Rattle.dx_base.specs.Array.{number}
use Rattle.dx_arrays.specs.Reach.{IsWithin, below_zero, above_zero}
use Rattle.dx_arrays.proofs.Points.{bound_step, wider, within_sum}
use Rattle.dx_arrays.proofs.Reaching.{within_below, within_above, low_moves, high_moves}
use Rattle.dx_arrays.proofs.range.reach_of.Goals as goal
use Rattle.dx_arrays.proofs.range.reach_of.Goals.{After-scaled}

-- how far out one dimension goes
span : (c : After-scaled) → (c.scaled.result ≡ pos (get_or c.args.counts.now c.loop-k.k 0 - 1) *ℤ number c.args.deltas.now (c.loop-k.k * length c.args.counts.now + c.args.place)) × IsWithin (2 ^ 95) c.scaled.result
span c =
    let d : ℤ = number c.args.deltas.now (c.loop-k.k * length c.args.counts.now + c.args.place) in
    let count = get_or c.args.counts.now c.loop-k.k 0 in
    let f : FitsSigned w64 d = search rules in
    let small : count - 1 < 2 ^ 32 = omega (arith, c.type_inv.counts c.loop-k.k) in
    let is : c.scaled.result ≡ pos (count - 1) *ℤ d = rw (to_z-of_z w64 d f, c.saturating_sub-last.ensures) at c.scaled.ensures in
    (is, rw is (bound_step (count - 1) d small f))

pub and-reach-requires-clause-low : goal.and-reach-requires-clause-low
and-reach-requires-clause-low c = wider (2 ^ 64 + c.loop-k.k * 2 ^ 95) (2 ^ 100) c.loop-k.reach.low (omega arith) c.loop-k.invariant.low_within

pub and-reach-requires-clause-high : goal.and-reach-requires-clause-high
and-reach-requires-clause-high c = wider (2 ^ 64 + c.loop-k.k * 2 ^ 95) (2 ^ 100) c.loop-k.reach.high (omega arith) c.loop-k.invariant.high_within

pub and-reach-requires-clause-span : goal.and-reach-requires-clause-span
and-reach-requires-clause-span c = rw (to_z-of_z w128 c.scaled.result (record { sfits = c.scaled.type_inv })) (span c).1

pub loop-k-preserved : goal.loop-k-preserved
loop-k-preserved c =
    let n = length c.args.counts.now in
    let k = c.loop-k.k in
    let count = get_or c.args.counts.now k 0 in
    let d : ℤ = number c.args.deltas.now (k * n + c.args.place) in
    let f : FitsSigned w64 d = search rules in
    let small : count - 1 < 2 ^ 32 = omega (arith, c.type_inv.counts k) in
    let span : c.scaled.result ≡ pos (count - 1) *ℤ d = rw (to_z-of_z w64 d f, c.saturating_sub-last.ensures) at c.scaled.ensures in
    let within : IsWithin (2 ^ 95) c.scaled.result = rw span (bound_step (count - 1) d small f) in
    let low = rw (to_z-of_z w128 c.scaled.result (record { sfits = c.scaled.type_inv })) at c.and-reach.ensures.low in
    let high = rw (to_z-of_z w128 c.scaled.result (record { sfits = c.scaled.type_inv })) at c.and-reach.ensures.high in
    record {
      low = low_moves n c.args.counts.now c.args.deltas.now c.args.place k c.loop-k.reach.low _ c.scaled.result _ c.loop-k-test.true span low c.loop-k.invariant.low;
      high = high_moves n c.args.counts.now c.args.deltas.now c.args.place k c.loop-k.reach.high _ c.scaled.result _ c.loop-k-test.true span high c.loop-k.invariant.high;
      low_within = rw low (within_sum (2 ^ 64 + (k + 1) * 2 ^ 95) (2 ^ 64 + k * 2 ^ 95) (2 ^ 95) c.loop-k.reach.low (below_zero c.scaled.result) (omega arith) c.loop-k.invariant.low_within (within_below (2 ^ 95) c.scaled.result within));
      high_within = rw high (within_sum (2 ^ 64 + (k + 1) * 2 ^ 95) (2 ^ 64 + k * 2 ^ 95) (2 ^ 95) c.loop-k.reach.high (above_zero c.scaled.result) (omega arith) c.loop-k.invariant.high_within (within_above (2 ^ 95) c.scaled.result within));
    }
