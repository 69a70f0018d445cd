use Rattle.std.proofs.Common.{◌≡◌, ◌-◌, ◌*◌}
use Rattle.dx_base.specs.Array.{items, width}
use Rattle.dx_fields.specs.Stray.{stray_from, first_stray}
use Rattle.dx_fields.proofs.stray.first_stored_stray.Given as goal

abbrev pub invariant-loop-i : goal.invariant-loop-i
invariant-loop-i l = stray_from l.array l.items l.i (items l.array * width l.array - l.i) ≡ first_stray l.array l.items
