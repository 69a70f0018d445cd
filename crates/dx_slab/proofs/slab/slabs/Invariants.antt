use Rattle.std.proofs.Common.{◌≡◌, ◌-◌}
use Rattle.dx_base.specs.Object.{append}
use Rattle.dx_slab.specs.Components as spec
use Rattle.dx_slab.proofs.slab.slabs.Given as goal

-- the slabs so far, with the rest, are all
abbrev pub invariant-loop-position : goal.invariant-loop-position
invariant-loop-position l =
    append l.members (spec.slabs l.counts l.cut.dimension l.cut.thickness l.whole l.position (l.number - l.position)) ≡ spec.slabs l.counts l.cut.dimension l.cut.thickness l.whole 0 l.number
