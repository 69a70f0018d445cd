use Rattle.std.proofs.Common.{◌≡◌, ◌++◌, take}
use Rattle.dx_lists.proofs.lists.extend.Given as goal

abbrev pub invariant-loop-n : goal.invariant-loop-n
invariant-loop-n l = l.numbers ≡ l.initial.numbers ++ take l.n-index l.new
