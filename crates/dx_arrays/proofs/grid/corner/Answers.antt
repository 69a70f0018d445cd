use Rattle.std.proofs.Common.{◌≡◌, ◌-◌, ◌*◌, ◌/◌, ◌∙◌, sym, ap, drop, get_or, arith}
use Rattle.dx_base.specs.Array.{product}
use Rattle.dx_arrays.specs.Corner.{corner_at}
use Rattle.dx_arrays.proofs.Cells.{corner_step, corner_sum, corner_numbers_at, corner_at-lt}
use Rattle.dx_arrays.proofs.grid.corner.Goals as goal

pub overflow_mul-number : goal.overflow_mul-number
overflow_mul-number c =
    let k = c.loop-k.k - 1 in
    let s = corner_step c.args.counts.now c.args.item c.args.place k c.loop-k.k (omega arith) (omega arith) c.requires.counts in
    let f = c.loop-k.invariant in
    let sum = corner_sum c.args.counts.now c.args.item c.args.place k c.loop-k.k _ _ _ _ s (record { cell = f.cell; side = f.side; stride = f.stride; number = f.number }) in
    omega (arith, sum, s.below, s.small)

pub overflow_add-number-in-loop-k : goal.overflow_add-number-in-loop-k
overflow_add-number-in-loop-k c =
    let k = c.loop-k.k - 1 in
    let s = corner_step c.args.counts.now c.args.item c.args.place k c.loop-k.k (omega arith) (omega arith) c.requires.counts in
    let f = c.loop-k.invariant in
    let sum = corner_sum c.args.counts.now c.args.item c.args.place k c.loop-k.k _ _ _ _ s (record { cell = f.cell; side = f.side; stride = f.stride; number = f.number }) in
    omega (arith, sum, s.below, s.small)

pub overflow_mul-stride : goal.overflow_mul-stride
overflow_mul-stride c =
    let k = c.loop-k.k - 1 in
    let s = corner_step c.args.counts.now c.args.item c.args.place k c.loop-k.k (omega arith) (omega arith) c.requires.counts in
    let whole : c.loop-k.stride * get_or c.args.counts.now k 0 ≡ product (drop k c.args.counts.now) = ap (λ x. x * get_or c.args.counts.now k 0) c.loop-k.invariant.stride ∙ sym s.stride in
    omega (arith, whole, s.small)

pub loop-k-preserved : goal.loop-k-preserved
loop-k-preserved c =
    let k = c.loop-k.k - 1 in
    let s = corner_step c.args.counts.now c.args.item c.args.place k c.loop-k.k (omega arith) (omega arith) c.requires.counts in
    let f = c.loop-k.invariant in
    record {
      within = omega arith;
      cell = ap (λ x. x / (get_or c.args.counts.now k 0 - 1)) f.cell ∙ sym s.cell;
      side = ap (λ x. x / 2) f.side ∙ sym s.side;
      stride = ap (λ x. x * get_or c.args.counts.now k 0) f.stride ∙ sym s.stride;
      number = corner_sum c.args.counts.now c.args.item c.args.place k c.loop-k.k _ _ _ _ s (record { cell = f.cell; side = f.side; stride = f.stride; number = f.number });
    }

-- the number when the walk is done
whole : (c : goal.After-loop-k) → c.loop-k.number ≡ corner_at c.args.counts.now c.args.item c.args.place
whole c =
    let first : c.loop-k.k ≡ 0 = omega arith in
    rw first at c.loop-k.invariant.number

pub returns-clause-number : goal.returns-clause-number
returns-clause-number c = whole c ∙ sym (corner_numbers_at c.args.counts.now c.args.item c.args.place c.requires.place)

pub returns-clause-small : goal.returns-clause-small
returns-clause-small c = omega (arith, whole c, corner_at-lt c.args.counts.now c.args.item c.args.place c.requires.counts)
