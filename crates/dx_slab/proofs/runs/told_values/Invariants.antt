use Rattle.std.proofs.Common.{◌≡◌}
use Rattle.dx_slab.specs.Runs.{run_values}
use Rattle.dx_slab.proofs.runs.told_values.Given as goal

-- the values of the runs so far
abbrev pub invariant-loop-run : goal.invariant-loop-run
invariant-loop-run l = l.values.items ≡ run_values l.array l.runs l.run
