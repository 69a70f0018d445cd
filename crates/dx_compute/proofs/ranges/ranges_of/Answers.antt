use Rattle.std.proofs.Common.{rules, ◌≡◌, ◌+◌, [], ◌∷◌, ◌++◌, length, sym, subst, ap, arith, length-append}
use Rattle.dx_compute_meaning.specs.Shown.{shown_arrays}
use Rattle.dx_compute.specs.Ranges.{KeepFirst}
use Rattle.dx_compute.proofs.Keeping.{next_range, within_each}
use Rattle.dx_compute.proofs.ranges.ranges_of.Goals as goal

pub range_for-requires-clause-within : goal.range_for-requires-clause-within
range_for-requires-clause-within c =
    within_each c.args.inputs.now.arrays.now c.args.inputs.now.items c.args.to c.loop-array.array-index c.array-item.result c.loop-array-test.true c.array-item.is c.args.inputs.now.alike c.requires.within

pub loop-array-preserved : goal.loop-array-preserved
loop-array-preserved c =
    let pushed : c.push.new.self.items ≡ c.loop-array.ranges.items ++ c.range_for.result ∷ [] = search rules in
    record {
      count = omega (arith, ap length pushed, length-append c.loop-array.ranges.items (c.range_for.result ∷ []), c.loop-array.invariant.count);
      keep = subst (KeepFirst (shown_arrays c.args.inputs.now.arrays.now) (c.loop-array.array-index + 1) c.args.from c.args.to) (sym pushed)
          (next_range c.args.inputs.now.arrays.now c.args.from c.args.to c.loop-array.ranges.items c.loop-array.array-index c.range_for.result c.array-item.result c.loop-array-test.true (sym c.loop-array.invariant.count) c.array-item.is c.range_for.ensures c.loop-array.invariant.keep);
    }
