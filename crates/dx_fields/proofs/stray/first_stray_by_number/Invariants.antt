use Rattle.std.proofs.Common.{◌≡◌, ◌-◌}
use Rattle.dx_fields.specs.Stray.{stray_from, first_stray}
use Rattle.dx_fields.proofs.stray.first_stray_by_number.Given as goal

abbrev pub invariant-loop-i : goal.invariant-loop-i
invariant-loop-i l = stray_from l.array l.items l.i (l.i-end - l.i) ≡ first_stray l.array l.items
