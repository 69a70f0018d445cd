use Rattle.std.proofs.Common.{◌+◌, ◌-◌, ◌*◌, ◌<◌, length, pos, slice_index_or, arith, ap, sym, ◌∙◌}
use Rattle.std.specs.Prelude.{slice_index}
use Rattle.std.specs.List.{range_with_len}
use Rattle.dx_expr.specs.Value.{checked}
use Rattle.dx_expr_blocks.specs.Block.{up_to}
use Rattle.dx_expr_blocks.proofs.Looping.{steps_map}
use Rattle.dx_expr_blocks.proofs.Ranges.{row_in_range}
use Rattle.dx_expr_blocks.proofs.int_rows.spanned.Goals as goal

pub filled-requires : goal.filled-requires
filled-requires c = λ place below.
    let items = range_with_len c.args.from (c.args.to - c.args.from) in
    let h : place < length items = omega (arith, c.requires.room) in
    let within : slice_index items place * c.args.width + c.args.place < length c.args.values.now = c.requires.within place h in
    omega (arith, row_in_range c.args.from (c.args.to - c.args.from) c.args.width c.args.place place h, within)

pub returns : goal.returns
returns c =
    let items = range_with_len c.args.from (c.args.to - c.args.from) in
    let e = steps_map (λ p v. checked (slice_index_or c.args.values.now (c.args.from * c.args.width + c.args.place + p * c.args.width) (pos 0))) (λ item. checked (slice_index_or c.args.values.now (item * c.args.width + c.args.place) (pos 0))) items c.args.buffer.items c.requires.room
    (λ p v h. ap (λ k. checked (slice_index_or c.args.values.now k (pos 0))) (row_in_range c.args.from (c.args.to - c.args.from) c.args.width c.args.place p h)) in
    ap up_to (sym e) ∙ c.filled.ensures
