use Rattle.std.proofs.Common.{◌≡◌, drop}
use Rattle.dx_base.specs.ObjectLimits as limits
use Rattle.dx_objects.specs.Shown.{parts_of}
use Rattle.dx_objects.proofs.names.are_all_fields.Given as goal

abbrev pub invariant-loop-part : goal.invariant-loop-part
invariant-loop-part l = limits.all_fields (parts_of (drop l.part-index l.parts)) ≡ limits.all_fields (parts_of l.parts)
