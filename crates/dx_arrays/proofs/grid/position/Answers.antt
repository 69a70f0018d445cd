use Rattle.std.proofs.Common.{rules, ◌≡◌, ◌∙◌, ap, ◌+◌, ◌*◌, ◌<◌, pos, ◌+ℤ◌, ◌*ℤ◌, length, FitsSigned, ◌^◌, ◌-◌, ◌%◌, slice_index_or, w64, to_z, of_z, arith}
use mir.Syntax.{w128}
use Rattle.std.proofs.lemmas.Int.{to_z-of_z}
use Rattle.dx_base.specs.Array as spec
use Rattle.dx_base.specs.Array.{indices_of}
use Rattle.dx_arrays.specs.Reach.{IsWithin}
use Rattle.dx_arrays.proofs.Points.{rest_step_to, offset_step_to, bound_step, sum_fits, sum_is, wider, within_sum, total_is, offset_all}
use Rattle.dx_arrays.proofs.grid.position.Goals as goal
use Rattle.dx_arrays.proofs.grid.position.Goals.{After-widened}

-- what one dimension adds
added : (c : goal.After-scaled-sum) → (c.scaled-sum.result ≡ pos (c.loop-k.rest % slice_index_or c.args.counts.now (c.loop-k.k - 1) 0) *ℤ slice_index_or c.args.deltas.now ((c.loop-k.k - 1) * length c.args.counts.now + c.args.place) (pos 0)) × IsWithin (2 ^ 95) c.scaled-sum.result
added c =
    let d = slice_index_or c.args.deltas.now ((c.loop-k.k - 1) * length c.args.counts.now + c.args.place) (pos 0) in
    let f : FitsSigned w64 d = search rules in
    let is = rw (to_z-of_z w64 d f) at c.scaled-sum.ensures in
    let some : 0 < slice_index_or c.args.counts.now (c.loop-k.k - 1) 0 = search rules in
    let small : c.loop-k.rest % slice_index_or c.args.counts.now (c.loop-k.k - 1) 0 < 2 ^ 32 = omega (arith, c.type_inv.counts (c.loop-k.k - 1)) in
    (is, rw is (bound_step _ d small f))

-- the sum so far
so_far : (c : goal.After-scaled-sum) → IsWithin (2 ^ 100) (to_z w128 c.loop-k.sum-bits)
so_far c = wider ((3 - c.loop-k.k) * 2 ^ 95) (2 ^ 100) _ (omega arith) c.loop-k.invariant.bound

pub overflow_add-sum : goal.overflow_add-sum
overflow_add-sum c = sum_fits (to_z w128 c.loop-k.sum-bits) c.scaled-sum.result (so_far c) (wider (2 ^ 95) (2 ^ 100) _ (omega arith) (added c).1)

pub loop-k-preserved : goal.loop-k-preserved
loop-k-preserved c =
    let n = length c.args.counts.now in
    let k = c.loop-k.k - 1 in
    let next : c.loop-k.k ≡ k + 1 = omega arith in
    let s = sum_is (to_z w128 c.loop-k.sum-bits) c.scaled-sum.result (so_far c) (wider (2 ^ 95) (2 ^ 100) _ (omega arith) (added c).1) in
    let inside : k < length c.args.counts.now = omega arith in
    let down = rest_step_to c.args.counts.now c.args.item k c.loop-k.k next inside in
    let more = offset_step_to n c.args.counts.now c.args.deltas.now c.args.item c.args.place k c.loop-k.k next inside in
    record {
      within = omega arith;
      rest = cc (down, c.loop-k.invariant.rest);
      sum = rw s (cc (more, c.loop-k.invariant.rest, c.loop-k.invariant.sum, (added c).0));
      bound = rw s (within_sum _ ((3 - c.loop-k.k) * 2 ^ 95) (2 ^ 95) _ _ (omega arith) c.loop-k.invariant.bound (added c).1);
    }

-- the sum of all dimensions
within : (c : After-widened) → IsWithin (2 ^ 100) (to_z w128 c.loop-k.sum-bits)
within c = wider ((3 - c.loop-k.k) * 2 ^ 95) (2 ^ 100) (to_z w128 c.loop-k.sum-bits) (omega arith) c.loop-k.invariant.bound

-- what the code's sum of the origin and the dimensions is
total : (c : After-widened) → to_z w128 (of_z w128 (to_z w128 (of_z w128 c.widened.result) +ℤ to_z w128 c.loop-k.sum-bits)) ≡ c.args.origin +ℤ spec.offset (length c.args.counts.now) (indices_of c.args.counts.now c.args.item) c.args.deltas.now c.args.place
total c =
    let n = length c.args.counts.now in
    let all : to_z w128 c.loop-k.sum-bits ≡ spec.offset n (indices_of c.args.counts.now c.args.item) c.args.deltas.now c.args.place =
    c.loop-k.invariant.sum ∙ offset_all n c.args.counts.now c.args.deltas.now c.args.item c.args.place c.loop-k.k (omega arith) in
    total_is c.args.origin (to_z w128 c.loop-k.sum-bits) c.widened.result (c.widened.ensures ∙ to_z-of_z w64 c.args.origin c.ranges.origin) c.ranges.origin (within c) ∙ ap (λ x. c.args.origin +ℤ x) all

pub narrowed-requires : goal.narrowed-requires
narrowed-requires c = rw (total c) c.requires.fits

pub returns : goal.returns
returns c =
    let is = c.narrowed.ensures ∙ total (goal.at.returns c).After-widened in
    let fits : FitsSigned w64 c.narrowed.result = rw is c.requires.fits in
    to_z-of_z w64 c.narrowed.result fits ∙ is
