use Rattle.std.proofs.Common.{◌≡◌, ◌++◌, drop}
use Rattle.dx_base.specs.Words.{numbers_behind}
use Rattle.dx_base.proofs.words.push_numbers_behind.Given as goal

abbrev pub invariant-loop-number : goal.invariant-loop-number
invariant-loop-number l = l.out.items ++ numbers_behind (drop l.number-index l.numbers) ≡ l.initial.out.items ++ numbers_behind l.numbers
