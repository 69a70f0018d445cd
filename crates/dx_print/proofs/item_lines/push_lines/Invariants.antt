use Rattle.std.proofs.Common.{◌≡◌, ◌++◌, ◌-◌}
use Rattle.dx_print.specs.ItemLines.{lines_of}
use Rattle.dx_print.proofs.item_lines.push_lines.Given as goal

abbrev pub invariant-loop-item : goal.invariant-loop-item
invariant-loop-item l = l.out.items ++ lines_of l.indent l.array l.item (l.to - l.item) ≡ l.fn.out.items ++ lines_of l.indent l.array l.from (l.to - l.from)
