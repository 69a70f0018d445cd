use Rattle.std.proofs.Common.{◌≡◌, ◌≤◌, ◌*◌, ◌-◌, ◌++◌, map, length}
use Rattle.dx_native_text.specs.Lines.{spelled}
use Rattle.dx_native_text.specs.Arrays.{rows, delta_line}
use Rattle.dx_native_write.proofs.array_lines.push_delta_lines.Given as goal

abbrev pub invariant-loop-dimension : goal.invariant-loop-dimension
invariant-loop-dimension l = record {
  text : l.out.items ++ spelled (map delta_line (rows l.dimensions (l.dimensions - l.dimension) l.rest)) ≡ l.initial.out.items ++ spelled (map delta_line (rows l.dimensions l.dimensions l.deltas));
  room : (l.dimensions - l.dimension) * l.dimensions ≤ length l.rest;
}
