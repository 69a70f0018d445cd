use Rattle.std.proofs.Common.{◌≡◌, take, drop, length}
use Rattle.dx_base.specs.Object.{append}
use Rattle.dx_base.specs.ObjectLimits.{unplaced}
use Rattle.dx_objects.specs.Shown.{parts_of}
use Rattle.dx_objects.proofs.parts.clear_positions.Given as goal

abbrev pub invariant-loop-part : goal.invariant-loop-part
invariant-loop-part l = record {
  parts : append (parts_of (take l.part-index l.parts)) (unplaced (parts_of (drop l.part-index l.parts))) ≡ unplaced (parts_of l.initial.parts);
  len : length l.parts ≡ length l.initial.parts;
}
