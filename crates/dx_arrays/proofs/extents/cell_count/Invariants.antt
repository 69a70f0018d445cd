use Rattle.std.proofs.Common.{◌≡◌, ◌*◌, ◌≤◌, min, drop}
use Rattle.dx_base.specs.Array.{product, cells}
use Rattle.dx_arrays.proofs.extents.cell_count.Given as goal

abbrev pub invariant-loop-count : goal.invariant-loop-count
invariant-loop-count l = record {
  whole : min (l.product * product (cells (drop l.count-index l.counts))) 18446744073709551615 ≡ min (product (cells l.counts)) 18446744073709551615;
  small : l.product ≤ 18446744073709551615;
}
