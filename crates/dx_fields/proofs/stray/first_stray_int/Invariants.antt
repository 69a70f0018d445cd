use Rattle.std.proofs.Common.{◌≡◌, ◌-◌, ◌*◌}
use Rattle.dx_base.specs.Array.{items, width}
use Rattle.dx_fields.specs.Stray.{stray_from, first_stray}
use Rattle.dx_fields.proofs.stray.first_stray_int.Given as goal

abbrev pub invariant-loop-number : goal.invariant-loop-number
invariant-loop-number l = stray_from l.array l.items l.number (items l.array * width l.array - l.number) ≡ first_stray l.array l.items
