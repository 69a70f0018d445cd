use Rattle.std.proofs.Common.{◌≡◌, drop}
use Rattle.dx_base.specs.ObjectNames.{find}
use Rattle.dx_objects.specs.Shown.{parts_of}
use Rattle.dx_select.proofs.mark.find.Given as goal

-- no part so far has the name
abbrev pub invariant-loop-part : goal.invariant-loop-part
invariant-loop-part l = find l.name (parts_of (drop l.part-index l.parts)) ≡ find l.name (parts_of l.parts)
