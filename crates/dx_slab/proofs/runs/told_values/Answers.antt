use Rattle.std.proofs.Common.{◌≡◌, ◌≤◌, ◌+◌, ◌-◌, ◌*◌, ◌++◌, sym, ap, ◌∙◌, arith}
use Rattle.dx_base.specs.Array.{items, width}
use Rattle.dx_arrays.specs.Block.{values_from}
use Rattle.dx_arrays.proofs.Blocks.{few_values, few_items}
use Rattle.dx_slab.specs.Runs.{run_values}
use Rattle.dx_slab.proofs.Keeping.{run_total, values_none, values_more}
use Rattle.dx_slab.proofs.runs.told_values.Goals as goal

pub overflow_mul-len : goal.overflow_mul-len
overflow_mul-len c = omega (arith, run_total c.args.runs (items c.args.array.now) c.requires, few_items c.args.array.now c.width-width.ensures.lawful)

pub overflow_mul-len-2 : goal.overflow_mul-len-2
overflow_mul-len-2 c =
    let total = run_total c.args.runs (items c.args.array.now) c.requires in
    let few : c.args.runs.count * c.args.runs.len * width c.args.array.now ≤ 134217728 = few_values c.args.array.now (c.args.runs.count * c.args.runs.len) c.width-width.ensures.lawful total in
    let same : c.args.runs.count * c.args.runs.len * c.width-width.result ≤ 134217728 = rw c.width-width.ensures.width few in
    omega (arith, same)

pub loop-run-init : goal.loop-run-init
loop-run-init c = c.in_ok-values.ensures.items ∙ sym (values_none c.args.array.now c.args.runs)

pub loop-run-preserved : goal.loop-run-preserved
loop-run-preserved c =
    let from = c.loop-run.run * c.args.runs.stride + c.args.runs.start in
    let len : from + c.args.runs.len - from ≡ c.args.runs.len = omega arith in
    c.in_ok-push_items.ensures.ok
    ∙ ap (λ vs. vs ++ values_from c.args.array.now from (from + c.args.runs.len - from)) c.loop-run.invariant
    ∙ ap (λ n. run_values c.args.array.now c.args.runs c.loop-run.run ++ values_from c.args.array.now from n) len
    ∙ sym (values_more c.args.array.now c.args.runs c.loop-run.run)
