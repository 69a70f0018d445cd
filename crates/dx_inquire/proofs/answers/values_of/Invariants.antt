use Rattle.std.proofs.Common.{◌≡◌, pos, map, take}
use Rattle.dx_inquire.proofs.answers.values_of.Given as goal

-- so many numbers were taken
abbrev pub invariant-loop-n : goal.invariant-loop-n
invariant-loop-n l = l.values.items ≡ map (λ n. pos n) (take l.n-index l.numbers)
