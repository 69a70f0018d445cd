use Rattle.std.proofs.Common.{◌≡◌, ◌++◌, drop}
use Rattle.dx_base.specs.Words.{counts_behind}
use Rattle.dx_base.proofs.words.push_counts_behind.Given as goal

abbrev pub invariant-loop-count : goal.invariant-loop-count
invariant-loop-count l = l.out.items ++ counts_behind (drop l.count-index l.counts) ≡ l.initial.out.items ++ counts_behind l.counts
