use Rattle.std.proofs.Common.{◌≡◌, ◌≤◌, ◌+◌, ◌*◌, refl, sym, ◌∙◌, arith}
use Rattle.dx_base.specs.Array.{items, width}
use Rattle.dx_base.specs.Elem.{byte_count}
use Rattle.dx_arrays.proofs.Blocks.{few_items}
use Rattle.dx_slab.proofs.Gathering.{gathered_size, few_values_of, few_stated}
use Rattle.dx_slab.proofs.Keeping.{run_total}
use Rattle.dx_slab.proofs.cut.size_of.Goals as goal

pub overflow_mul-result : goal.overflow_mul-result
overflow_mul-result c = omega (arith, run_total c.args.runs (items c.args.array.now) c.requires, few_items c.args.array.now c.items-items.ensures.lawful)

pub overflow_mul-result-2 : goal.overflow_mul-result-2
overflow_mul-result-2 c =
    let few : c.args.runs.count * c.args.runs.len * c.width.result ≤ 134217728 = rw c.width.ensures.width (few_values_of c.args.array.now c.args.runs c.items-items.ensures.lawful c.requires) in
    omega (arith, few)

pub overflow_mul-result-3 : goal.overflow_mul-result-3
overflow_mul-result-3 c =
    let few : c.args.runs.count * c.args.runs.len * c.width.result * c.byte_count.result ≤ 536870912 =
    rw (c.width.ensures.width, c.byte_count.ensures, c.elem.ensures) (few_stated c.args.array.now c.args.runs c.items-items.ensures.lawful c.requires) in
    omega (arith, few)

pub overflow_add-result : goal.overflow_add-result
overflow_add-result c =
    let few : c.args.runs.count * c.args.runs.len * c.width.result * c.byte_count.result ≤ 536870912 =
    rw (c.width.ensures.width, c.byte_count.ensures, c.elem.ensures) (few_stated c.args.array.now c.args.runs c.items-items.ensures.lawful c.requires) in
    omega (arith, few)

pub returns : goal.returns
returns c =
    let own : 64 + c.args.runs.count * c.args.runs.len * c.width.result * c.byte_count.result ≡ 64 + c.args.runs.count * c.args.runs.len * width c.args.array.now * byte_count c.args.array.now.elem =
    rw (c.width.ensures.width, c.byte_count.ensures, c.elem.ensures) refl in
    own ∙ sym (gathered_size c.args.array.now c.args.runs)
