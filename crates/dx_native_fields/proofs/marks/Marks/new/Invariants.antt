use Rattle.std.proofs.Common.{◌≡◌, replicate, false}
use Rattle.dx_native_fields.proofs.marks.Marks.new.Given as goal

abbrev pub invariant-loop-i : goal.invariant-loop-i
invariant-loop-i l = l.marked.items ≡ replicate l._i false
