use Rattle.std.proofs.Common.{◌≡◌, ◌++◌}
use Rattle.dx_ast.specs.Values.{range, range_count}
use Rattle.dx_lists.proofs.Ranging.{IsBehind}
use Rattle.dx_lists.proofs.lists.range.Given as goal

abbrev pub invariant-each : goal.invariant-each
invariant-each l = record {
  same : range l.fn.a l.fn.b l.fn.d ≡ l.numbers ++ range l.next l.fn.b l.fn.d;
  behind : IsBehind l.fn.a l.fn.d l.next;
}

abbrev pub decreases-each : goal.decreases-each
decreases-each l = range_count l.next l.fn.b l.fn.d
