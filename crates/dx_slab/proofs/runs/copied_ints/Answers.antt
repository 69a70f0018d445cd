use Rattle.std.proofs.Common.{◌≤◌, ◌+◌, ◌*◌, ◌++◌, sym, ap, ◌∙◌, arith}
use Rattle.dx_base.specs.Array.{items, width}
use Rattle.dx_arrays.specs.Block.{values_from}
use Rattle.dx_arrays.proofs.Blocks.{few_values, few_items}
use Rattle.dx_slab.proofs.Copying.{stands_in}
use Rattle.dx_slab.proofs.Keeping.{run_total, values_none, values_more}
use Rattle.dx_slab.proofs.runs.copied_ints.Goals as goal

pub overflow_mul-len : goal.overflow_mul-len
overflow_mul-len c = omega (arith, run_total c.args.runs (items c.args.array.now) c.requires.within, few_items c.args.array.now c.width-width.ensures.lawful)

pub overflow_mul-len-2 : goal.overflow_mul-len-2
overflow_mul-len-2 c =
    let total = run_total c.args.runs (items c.args.array.now) c.requires.within in
    let few : c.args.runs.count * c.args.runs.len * width c.args.array.now ≤ 134217728 = few_values c.args.array.now (c.args.runs.count * c.args.runs.len) c.width-width.ensures.lawful total in
    let same : c.args.runs.count * c.args.runs.len * c.width-width.result ≤ 134217728 = rw c.width-width.ensures.width few in
    omega (arith, same)

pub loop-run-init : goal.loop-run-init
loop-run-init c = record {
  items = c.in_ok-values.ensures.items ∙ sym (values_none c.args.array.now c.args.runs);
  len = omega (arith, c.in_ok-values.ensures.len);
  room = rw (← c.width-width.ensures.width) c.in_ok-values.ensures.capacity;
}

pub overflow_mul-first-in-loop-run : goal.overflow_mul-first-in-loop-run
overflow_mul-first-in-loop-run c =
    let s = stands_in c.args.array.now c.args.stored.now c.args.runs c.loop-run.run c.width-width.result c.width-width.ensures.lawful c.requires.stored c.width-width.ensures.width c.requires.within c.loop-run-test.true in
    omega (arith, s.order, s.few)

pub overflow_mul-end-in-loop-run : goal.overflow_mul-end-in-loop-run
overflow_mul-end-in-loop-run c =
    let s = stands_in c.args.array.now c.args.stored.now c.args.runs c.loop-run.run c.width-width.result c.width-width.ensures.lawful c.requires.stored c.width-width.ensures.width c.requires.within c.loop-run-test.true in
    omega (arith, s.few)

pub offset_bounds-stored-first : goal.offset_bounds-stored-first
offset_bounds-stored-first c =
    let s = stands_in c.args.array.now c.args.stored.now c.args.runs c.loop-run.run c.width-width.result c.width-width.ensures.lawful c.requires.stored c.width-width.ensures.width c.requires.within c.loop-run-test.true in
    omega (arith, s.order, s.few)

pub slice_bounds-push_ints-end : goal.slice_bounds-push_ints-end
slice_bounds-push_ints-end c =
    let s = stands_in c.args.array.now c.args.stored.now c.args.runs c.loop-run.run c.width-width.result c.width-width.ensures.lawful c.requires.stored c.width-width.ensures.width c.requires.within c.loop-run-test.true in
    omega (arith, s.order, s.within)

pub push_ints-requires : goal.push_ints-requires
push_ints-requires c =
    let s = stands_in c.args.array.now c.args.stored.now c.args.runs c.loop-run.run c.width-width.result c.width-width.ensures.lawful c.requires.stored c.width-width.ensures.width c.requires.within c.loop-run-test.true in
    record { room = omega (arith, s.len, s.next, s.room, c.loop-run.invariant.len, c.loop-run.invariant.room) }

pub loop-run-preserved : goal.loop-run-preserved
loop-run-preserved c =
    let a = c.args.array.now in
    let r = c.args.runs in
    let k = c.loop-run.run in
    let s = stands_in a c.args.stored.now r k c.width-width.result c.width-width.ensures.lawful c.requires.stored c.width-width.ensures.width c.requires.within c.loop-run-test.true in
    record {
      items = c.push_ints.ensures.items ∙ ap (λ vs. c.loop-run.values.items ++ vs) s.values ∙ ap (λ vs. vs ++ values_from a (k * r.stride + r.start) r.len) c.loop-run.invariant.items ∙ sym (values_more a r k);
      len = omega (arith, c.push_ints.ensures.len, s.len, s.next, c.loop-run.invariant.len);
      room = omega (arith, c.push_ints.ensures.capacity, c.loop-run.invariant.room);
    }
