use Rattle.std.proofs.Common.{◌≡◌, drop}
use Rattle.dx_demand.specs.Searching.{calls_at, first_of}
use Rattle.dx_demand.proofs.calling.first_under.Given as goal

abbrev pub invariant-loop-i : goal.invariant-loop-i
invariant-loop-i l = first_of (calls_at l.found) (drop l.i-index l.inputs) ≡ first_of (calls_at l.found) l.inputs
