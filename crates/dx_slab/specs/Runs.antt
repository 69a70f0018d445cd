-- Items of an array as runs of items in a row, and their values.
use Rattle.std.specs.Prelude.{ℕ, ◌+◌, ◌*◌, ◌≤◌, ℤ, List}
use Rattle.std.specs.List.{range_with_len, flat_map}
use Rattle.dx_base.specs.Array.{ArrayData}
use Rattle.dx_arrays.specs.Block.{values_from}
use Rattle.dx_slab.specs.declared.runs.Runs.{Runs}

-- the numbers of the items, run by run
unfoldable pub run_items : Runs → List ℕ
run_items r = flat_map (λ k. range_with_len (k * r.stride + r.start) r.len) (range_with_len 0 r.count)

-- the values of the first k runs
unfoldable pub run_values : ArrayData → Runs → ℕ → List ℤ
run_values a r k = flat_map (λ j. values_from a (j * r.stride + r.start) r.len) (range_with_len 0 k)

-- the runs lie apart, and within n items
pub record AreWithin (r : Runs) (n : ℕ) : Type 0 where
  pub run : r.start + r.len ≤ r.stride
  pub all : r.count * r.stride ≤ n
