use Rattle.std.proofs.Common.{◌≡◌, ◌+◌, ◌*◌, pos, slice_index_or, ap, arith, ◌∙◌}
use Rattle.std.specs.Prelude.{map, slice_index}
use Rattle.dx_expr.specs.Value.{checked}
use Rattle.dx_expr_blocks.specs.Block.{up_to}
use Rattle.dx_expr_blocks.specs.Items.{items_of}
use Rattle.dx_expr_blocks.proofs.Ranges.{below_at}
use Rattle.dx_expr_blocks.proofs.InputParts.{part_place, at_input_part, at_rows}
use Rattle.dx_expr_blocks.proofs.parts.input_part.Goals as goal

pub in_rows-requires-clause-within : goal.in_rows-requires-clause-within
in_rows-requires-clause-within g c = λ p h.
    let inputs = g.I.Inputs.given c.args.inputs.now in
    let below = part_place inputs.shape c.args.e.now c.args.k c.args.place c.requires.is c.requires.single in
    let within = (c.in-Rows.ensures.1 (slice_index (items_of c.args.block) p) c.args.place (below_at (g.I.Inputs.items c.args.inputs.now) (items_of c.args.block) c.requires.within p h) below).0 in
    omega (arith, within, c.from.ensures)

pub in_int_rows-requires-clause-within : goal.in_int_rows-requires-clause-within
in_int_rows-requires-clause-within g c = λ p h.
    let inputs = g.I.Inputs.given c.args.inputs.now in
    let below = part_place inputs.shape c.args.e.now c.args.k c.args.place c.requires.is c.requires.single in
    let within = (c.in-IntRows.ensures.1 (slice_index (items_of c.args.block) p) c.args.place (below_at (g.I.Inputs.items c.args.inputs.now) (items_of c.args.block) c.requires.within p h) below).0 in
    omega (arith, within, c.from-in-IntRows.ensures)

pub asked_part-requires-clause-place : goal.asked_part-requires-clause-place
asked_part-requires-clause-place g c = part_place (g.I.Inputs.given c.args.inputs.now).shape c.args.e.now c.args.k c.args.place c.requires.is c.requires.single

pub returns-in_ok-buffer-in-Rows : goal.returns-in_ok-buffer-in-Rows
returns-in_ok-buffer-in-Rows g c =
    let inputs = g.I.Inputs.given c.args.inputs.now in
    let n = g.I.Inputs.items c.args.inputs.now in
    let below = part_place inputs.shape c.args.e.now c.args.k c.args.place c.requires.is c.requires.single in
    at_rows inputs c.args.e.now c.args.k c.args.place n c.requires.is below c.in-Rows.ensures.0 c.in-Rows.values.now c.in-Rows.width (λ item h. (c.in-Rows.ensures.1 item c.args.place h below).1) (items_of c.args.block) c.requires.within
    ∙ ap (λ q. up_to (map (λ item. checked (slice_index_or c.in-Rows.values.now (item * c.in-Rows.width + q) (pos 0))) (items_of c.args.block))) (let same : c.args.place ≡ c.from.result = omega (arith, c.from.ensures) in same)
    ∙ c.in_rows.ensures

pub returns-in_ok-buffer-in-IntRows : goal.returns-in_ok-buffer-in-IntRows
returns-in_ok-buffer-in-IntRows g c =
    let inputs = g.I.Inputs.given c.args.inputs.now in
    let n = g.I.Inputs.items c.args.inputs.now in
    let below = part_place inputs.shape c.args.e.now c.args.k c.args.place c.requires.is c.requires.single in
    at_rows inputs c.args.e.now c.args.k c.args.place n c.requires.is below c.in-IntRows.ensures.0 c.in-IntRows.values.now c.in-IntRows.width (λ item h. (c.in-IntRows.ensures.1 item c.args.place h below).1) (items_of c.args.block) c.requires.within
    ∙ ap (λ q. up_to (map (λ item. checked (slice_index_or c.in-IntRows.values.now (item * c.in-IntRows.width + q) (pos 0))) (items_of c.args.block))) (let same : c.args.place ≡ c.from-in-IntRows.result = omega (arith, c.from-in-IntRows.ensures) in same)
    ∙ c.in_int_rows.ensures

pub returns-in_ok-buffer-in-Ints : goal.returns-in_ok-buffer-in-Ints
returns-in_ok-buffer-in-Ints g c =
    let inputs = g.I.Inputs.given c.args.inputs.now in
    let n = g.I.Inputs.items c.args.inputs.now in
    let below = part_place inputs.shape c.args.e.now c.args.k c.args.place c.requires.is c.requires.single in
    at_input_part inputs c.args.e.now c.args.k c.args.place n c.requires.is below c.in-Ints.ensures (items_of c.args.block) c.requires.within
    ∙ c.asked_part.ensures
