use Rattle.std.proofs.Common.{◌≡◌, drop, cond}
use Rattle.dx_base.specs.Object.{append}
use Rattle.dx_base.specs.ObjectNames.{put}
use Rattle.dx_objects.specs.Shown.{parts_of}
use Rattle.dx_objects.proofs.parts.Parts.copy_with.Given as goal

abbrev pub invariant-loop-part : goal.invariant-loop-part
invariant-loop-part l =
    let rest = parts_of (drop l.part-index l.parts) in
    append l.copy (cond l.is_placed rest (put l.name l.object.value rest)) ≡ put l.name l.object.value (parts_of l.parts)
