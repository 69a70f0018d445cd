use Rattle.std.proofs.Common.{◌≡◌, drop, cond}
use Rattle.dx_base.specs.Object.{append}
use Rattle.dx_base.specs.ObjectNames.{without}
use Rattle.dx_objects.specs.Shown.{parts_of}
use Rattle.dx_objects.proofs.parts.Parts.copy_without.Given as goal

abbrev pub invariant-loop-part : goal.invariant-loop-part
invariant-loop-part l =
    let rest = parts_of (drop l.part-index l.parts) in
    append l.copy (cond l.is_removed rest (without l.name rest)) ≡ without l.name (parts_of l.parts)
