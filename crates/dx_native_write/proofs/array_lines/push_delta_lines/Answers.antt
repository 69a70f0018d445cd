use Rattle.std.proofs.Common.{arith}
use Rattle.dx_native_text.specs.Arrays.{delta_line}
use Rattle.dx_native_write.specs.Spelled.{delta_text}
use Rattle.dx_native_write.proofs.Spelling.{delta_is}
use Rattle.dx_native_write.proofs.ClassLines.{rows_next, rows_room}
use Rattle.dx_native_write.proofs.array_lines.push_delta_lines.Goals as goal

pub loop-dimension-preserved : goal.loop-dimension-preserved
loop-dimension-preserved c = record {
  text = rows_next delta_line delta_text delta_is c.args.dimensions c.loop-dimension.dimension c.args.dimensions c.loop-dimension.rest.now c.split_at.result.0.now c.split_at.result.1.now _ _ _ (omega arith)
      c.split_at.ensures.front c.split_at.ensures.back c.loop-dimension.invariant.text c.in_ok-push_delta_line.ensures;
  room = rows_room c.args.dimensions c.loop-dimension.dimension c.args.dimensions c.loop-dimension.rest.now c.split_at.result.1.now (omega arith) c.split_at.ensures.back c.loop-dimension.invariant.room;
}
