use Rattle.std.proofs.Common.{arith}
use Rattle.dx_native_text.specs.Arrays.{item_line}
use Rattle.dx_native_write.specs.Spelled.{item_text}
use Rattle.dx_native_write.proofs.Spelling.{item_is}
use Rattle.dx_native_write.proofs.ClassLines.{rows_next, rows_room}
use Rattle.dx_native_write.proofs.array_lines.push_int_lines.Goals as goal

pub loop-item-preserved : goal.loop-item-preserved
loop-item-preserved c = record {
  text = rows_next item_line item_text item_is c.args.width c.loop-item.item c.args.items c.loop-item.rest.now c.split_at.result.0.now c.split_at.result.1.now _ _ _ (omega arith)
      c.split_at.ensures.front c.split_at.ensures.back c.loop-item.invariant.text c.in_ok-push_int_line.ensures;
  room = rows_room c.args.width c.loop-item.item c.args.items c.loop-item.rest.now c.split_at.result.1.now (omega arith) c.split_at.ensures.back c.loop-item.invariant.room;
}
