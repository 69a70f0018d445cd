use Rattle.std.proofs.Common.{◌≡◌, ◌+◌, ◌≤◌, min, max, drop}
use Rattle.dx_base.specs.Object as spec
use Rattle.dx_base.specs.ObjectLimits.{AreLawful}
use Rattle.dx_objects.specs.Shown.{parts_of}
use Rattle.dx_objects.proofs.measure.sums_of.Given as goal

abbrev pub invariant-loop-part : goal.invariant-loop-part
invariant-loop-part l = record {
  size : min (l.size + spec.total_size (parts_of (drop l.part-index l.parts))) 18446744073709551615 ≡ min (spec.total_size (parts_of l.parts)) 18446744073709551615;
  small_size : l.size ≤ 18446744073709551615;
  count : min (l.count + spec.total_count (parts_of (drop l.part-index l.parts))) 18446744073709551615 ≡ min (spec.total_count (parts_of l.parts)) 18446744073709551615;
  small_count : l.count ≤ 18446744073709551615;
  levels : max l.levels (spec.deepest (parts_of (drop l.part-index l.parts))) ≡ spec.deepest (parts_of l.parts);
  lawful : AreLawful (parts_of (drop l.part-index l.parts)) → AreLawful (parts_of l.parts);
}
