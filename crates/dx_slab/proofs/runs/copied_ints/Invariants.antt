use Rattle.std.proofs.Common.{◌≡◌, ◌≤◌, ◌*◌}
use Rattle.std.specs.Vec.{vec_len, vec_capacity}
use Rattle.dx_base.specs.Array.{width}
use Rattle.dx_slab.specs.Runs.{run_values}
use Rattle.dx_slab.proofs.runs.copied_ints.Given as goal

-- the values of the runs so far, and room for the others
abbrev pub invariant-loop-run : goal.invariant-loop-run
invariant-loop-run l = record {
  items : l.values.items ≡ run_values l.array l.runs l.run;
  len : vec_len l.values ≡ l.run * l.runs.len * width l.array;
  room : l.runs.count * l.runs.len * width l.array ≤ vec_capacity l.values;
}
