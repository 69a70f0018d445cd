use Rattle.std.proofs.Common.{◌≡◌, drop}
use Rattle.dx_objects.specs.Shown.{parts_of}
use Rattle.dx_slab.specs.Inputs as spec
use Rattle.dx_slab.proofs.checks.none_refers.Given as goal

-- no component so far refers to another one
abbrev pub invariant-loop-part : goal.invariant-loop-part
invariant-loop-part l = spec.none_refers (parts_of (drop l.part-index l.parts)) ≡ spec.none_refers (parts_of l.parts)
