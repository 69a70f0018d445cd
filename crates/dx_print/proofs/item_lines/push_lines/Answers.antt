use Rattle.std.proofs.Common.{arith}
use Rattle.dx_print.proofs.Ranges.{lines_next, lines_end}
use Rattle.dx_print.proofs.item_lines.push_lines.Goals as goal

pub loop-item-preserved : goal.loop-item-preserved
loop-item-preserved c =
    lines_next c.args.indent c.args.array.now c.loop-item.item c.args.to _ _ _ (omega arith) c.loop-item.invariant c.in_ok-push_item_line.ensures

pub returns : goal.returns
returns c = lines_end c.args.indent c.args.array.now c.loop-item.item c.args.to _ _ (omega arith) c.loop-item.invariant
