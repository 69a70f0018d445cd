use Rattle.std.proofs.Common.{arith}
use Rattle.dx_print.proofs.Ranges.{words_begin, words_next, words_end}
use Rattle.dx_print.proofs.item_lines.push_item.Goals as goal

pub loop-place-init : goal.loop-place-init
loop-place-init c = words_begin c.args.array.now c.args.item _ _ (omega arith) c.in_ok-push_value.ensures

pub loop-place-preserved : goal.loop-place-preserved
loop-place-preserved c =
    words_next c.args.array.now c.args.item c.loop-place.place _ _ _ (omega arith) c.loop-place.invariant
    (rw c.in_ok-push.ensures.items at c.in_ok-push_value-2.ensures)

pub returns : goal.returns
returns c = words_end c.args.array.now c.args.item c.loop-place.place _ _ (omega arith) c.loop-place.invariant
