use Rattle.std.proofs.Common.{◌≡◌}
use Rattle.dx_native_grammar.specs.Grammar.{counted, int}
use Rattle.dx_native_head.proofs.ints.int_numbers.Given as goal

abbrev pub invariant-loop-left : goal.invariant-loop-left
invariant-loop-left l = (counted int l.n l.fn.found).read l.fn.cursor ≡ (counted int l.left l.values.items).read l.cursor

abbrev pub decreases-loop-left : goal.decreases-loop-left
decreases-loop-left l = l.left
