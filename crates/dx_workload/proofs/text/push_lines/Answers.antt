use Rattle.std.proofs.Common.{arith}
use Rattle.dx_workload.proofs.Lines.{lines_next, lines_end}
use Rattle.dx_workload.proofs.text.push_lines.Goals as goal

pub loop-k-preserved : goal.loop-k-preserved
loop-k-preserved c = lines_next c.loop-k.k _ _ _ _ (omega arith) c.loop-k.invariant c.in_ok-push_line.ensures

pub returns : goal.returns
returns c = lines_end c.loop-k.k _ _ _ (omega arith) c.loop-k.invariant
