use Rattle.std.proofs.Common.{◌≡◌, drop}
use Rattle.dx_base.specs.Object.{append}
use Rattle.dx_select.specs.Collect as spec
use Rattle.dx_select.proofs.collect.members.Given as goal

-- the members so far, with what the rest gives, are all
abbrev pub invariant-loop-i : goal.invariant-loop-i
invariant-loop-i l = append l.members (spec.members (drop l.i l.inputs)) ≡ spec.members l.inputs
