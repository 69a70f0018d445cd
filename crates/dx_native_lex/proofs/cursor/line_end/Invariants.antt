use Rattle.std.proofs.Common.{◌≡◌, ◌+◌, ◌<◌, ◌^◌, length}
use Rattle.dx_native_lex.specs.Raw.{line_end_by}
use Rattle.dx_native_lex.proofs.cursor.line_end.Given as goal

abbrev pub invariant-loop-rest : goal.invariant-loop-rest
invariant-loop-rest l = record {
  same : line_end_by l.at l.rest ≡ line_end_by l.fn.offset l.fn.text;
  offset : l.at + length l.rest < 2 ^ 63;
}

abbrev pub decreases-loop-rest : goal.decreases-loop-rest
decreases-loop-rest l = length l.rest
