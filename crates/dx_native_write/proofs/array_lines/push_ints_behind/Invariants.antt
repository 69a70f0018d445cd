use Rattle.std.proofs.Common.{◌≡◌, ◌++◌, drop}
use Rattle.dx_base.specs.Words.{numbers_behind}
use Rattle.dx_native_write.proofs.array_lines.push_ints_behind.Given as goal

abbrev pub invariant-loop-value : goal.invariant-loop-value
invariant-loop-value l = l.out.items ++ numbers_behind (drop l.value-index l.values) ≡ l.initial.out.items ++ numbers_behind l.values
