use Rattle.std.proofs.Common.{◌≡◌, ◌++◌, drop}
use Rattle.dx_macros.proofs.jobs.put_names.Given as goal

abbrev pub invariant-loop-n : goal.invariant-loop-n
invariant-loop-n l = l.list ++ drop l.n-index l.names ≡ l.initial.list ++ l.names
