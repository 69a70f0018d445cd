use Rattle.std.proofs.Common.{◌≡◌, drop}
use Rattle.dx_base.specs.Object.{append}
use Rattle.dx_objects.specs.Shown.{parts_of}
use Rattle.dx_slab.specs.Components as spec
use Rattle.dx_slab.specs.Lawful.{PlayRoles}
use Rattle.dx_slab.proofs.components.cut_parts.Given as goal

-- the components so far, with those of the rest, are all
abbrev pub invariant-loop-part : goal.invariant-loop-part
invariant-loop-part l = record {
  roles : PlayRoles l.counts (parts_of (drop l.part-index l.parts));
  cells : l.has_no_cells ≡ spec.has_no_cells l.counts l.cut;
  all : append l.own (spec.cut_parts l.counts l.cut (parts_of (drop l.part-index l.parts))) ≡ spec.cut_parts l.counts l.cut (parts_of l.parts);
}
