use Rattle.std.proofs.Common.{◌≡◌, ◌*◌, ◌≤◌, min, drop}
use Rattle.dx_base.specs.Array.{product}
use Rattle.dx_arrays.proofs.extents.product_of.Given as goal

abbrev pub invariant-loop-extent : goal.invariant-loop-extent
invariant-loop-extent l = record {
  whole : min (l.product * product (drop l.extent-index l.extents)) 18446744073709551615 ≡ min (product l.extents) 18446744073709551615;
  small : l.product ≤ 18446744073709551615;
}
