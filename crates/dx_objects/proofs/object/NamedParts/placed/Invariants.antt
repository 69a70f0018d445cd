use Rattle.std.proofs.Common.{◌≡◌, drop}
use Rattle.dx_base.specs.Object.{append}
use Rattle.dx_base.specs.ObjectMembers.{placed}
use Rattle.dx_objects.specs.Members.{trees}
use Rattle.dx_objects.specs.Shown.{parts_of}
use Rattle.dx_objects.proofs.object.NamedParts.placed.Given as goal

abbrev pub invariant-loop-part : goal.invariant-loop-part
invariant-loop-part l =
    append l.copy (placed (parts_of (drop l.part-index l.part-items)) (trees l.rest)) ≡ placed l.self (trees l.objects)
