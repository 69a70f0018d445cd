use Rattle.std.proofs.Common.{◌≡◌, drop}
use Rattle.dx_base.specs.Object.{append}
use Rattle.dx_objects.specs.Shown.{parts_of}
use Rattle.dx_objects.proofs.parts.Parts.copy_of.Given as goal

abbrev pub invariant-loop-part : goal.invariant-loop-part
invariant-loop-part l = append l.copy (parts_of (drop l.part-index l.parts)) ≡ parts_of l.parts
