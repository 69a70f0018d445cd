use Rattle.std.proofs.Common.{◌≡◌, ◌≤◌, ◌*◌, ◌-◌, ◌++◌, map, length}
use Rattle.dx_native_text.specs.Lines.{spelled}
use Rattle.dx_native_text.specs.Arrays.{rows, item_line}
use Rattle.dx_native_write.proofs.array_lines.push_wide_lines.Given as goal

abbrev pub invariant-loop-item : goal.invariant-loop-item
invariant-loop-item l = record {
  text : l.out.items ++ spelled (map item_line (rows l.width (l.items - l.item) l.rest)) ≡ l.initial.out.items ++ spelled (map item_line (rows l.width l.items l.values));
  room : (l.items - l.item) * l.width ≤ length l.rest;
}
