use Rattle.std.proofs.Common.{◌≡◌, ◌++◌, drop}
use Rattle.dx_objects.specs.Values.{values_of}
use Rattle.dx_objects.proofs.outs.Outs.copy.Given as goal

abbrev pub invariant-loop-value : goal.invariant-loop-value
invariant-loop-value l = l.copy ++ values_of (drop l.value-index l.value-items) ≡ l.self
