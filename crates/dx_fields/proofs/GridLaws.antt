-- Counts of grids.
use Rattle.std.proofs.Common.{◌≡◌, ℕ, ◌≤◌, List, length, Some, arith}
use Rattle.std.specs.Prelude.{IsTrue, nat_le, ◌&&◌}
use Rattle.std.specs.List.{list_all}
use Rattle.std.proofs.lemmas.Bool.{and_parts}
use Rattle.std.proofs.lemmas.Bool.Decides.{nat_tests}
use Rattle.dx_base.specs.Array.{ArrayData, Class, plain, constant, regular, grid_positions, grid_connections}
use Rattle.dx_base.specs.ArrayLimits.{IsLawfulArray, has_grid, is_shape}
use Rattle.dx_fields.specs.Grids.{point_counts}

few_by : (c : Class) (cs : List ℕ) → IsTrue (has_grid c) → point_counts c ≡ Some cs → length cs ≤ 3
few_by (plain vs) cs h e = absurd (cc e)
few_by (constant n v) cs h e = absurd (cc e)
few_by (regular n o d) cs h e = absurd (cc e)
few_by (grid_positions ds o es) cs h e =
    let same : ds ≡ cs = cc in
    let parts = and_parts (nat_le 1 (length ds) && nat_le (length ds) 3) (list_all (λ c. nat_le 1 c) ds) h in
    let few = (and_parts (nat_le 1 (length ds)) (nat_le (length ds) 3) parts.0).1 in
    rw (← same) (grind (arith, nat_tests, few))
few_by (grid_connections ds) cs h e = absurd (cc e)

-- a grid has three dimensions at most
pub few_dimensions : (a : ArrayData) (cs : List ℕ) → IsLawfulArray a → point_counts a.class ≡ Some cs → length cs ≤ 3
few_dimensions a cs l e = few_by a.class cs (and_parts (is_shape a.extents) (has_grid a.class) l.shape).1 e
