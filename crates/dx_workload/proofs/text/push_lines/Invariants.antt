use Rattle.std.proofs.Common.{◌≡◌, ◌++◌, ◌+◌, ◌-◌}
use Rattle.dx_workload.specs.Workload.{lines_from}
use Rattle.dx_workload.proofs.text.push_lines.Given as goal

abbrev pub invariant-loop-k : goal.invariant-loop-k
invariant-loop-k l = l.out.items ++ lines_from l.k (l.lines + 1 - l.k) ≡ l.fn.out.items ++ lines_from 1 l.lines
