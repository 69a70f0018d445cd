use Rattle.std.proofs.Common.{◌≡◌, ◌-◌}
use Rattle.dx_native_grammar.specs.Grammar as spec
use Rattle.dx_native_arrays.proofs.arrays.deltas.Given as goal

abbrev pub invariant-loop-i : goal.invariant-loop-i
invariant-loop-i l = (spec.deltas l.n l.lines l.fn.found).read l.fn.cursor ≡ (spec.deltas l.n (l.lines - l._i) l.found).read l.cursor
