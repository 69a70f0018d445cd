use Rattle.std.proofs.Common.{◌≡◌, drop}
use Rattle.dx_fields.specs.Faults.{first_fault}
use Rattle.dx_objects.specs.Shown.{parts_of}
use Rattle.dx_fields.proofs.check.first_fault.Given as goal

abbrev pub invariant-loop-part : goal.invariant-loop-part
invariant-loop-part l = first_fault (parts_of (drop l.part-index l.components)) l.field ≡ first_fault (parts_of l.components) l.field
