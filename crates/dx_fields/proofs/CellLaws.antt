-- Cells of a grid: their corners are points, so each of their values names an item where there are as many as points.
use Rattle.std.proofs.Common.{◌≡◌, ℕ, ◌*◌, ◌/◌, ◌%◌, ◌^◌, ◌<◌, ◌≤◌, pos, List, [], ◌∷◌, length, min, None, true, refl, ap, arith, inl, inr}
use Rattle.std.specs.Prelude.{slice_index}
use Rattle.std.proofs.lemmas.Int.{ints}
use Rattle.std.proofs.lemmas.Bool.{cases_lt}
use Rattle.std.proofs.Math.Nat.{mod-lt, zero-mul}
use Rattle.dx_base.specs.declared.elem.ElemType.{ElemType}
use Rattle.dx_base.specs.Array.{ArrayData, Class, plain, constant, regular, grid_positions, grid_connections, product, cells, indices_of, corner_numbers, counts_of}
use Rattle.dx_base.specs.ArrayLimits.{IsLawfulArray, IsOfGrid}
use Rattle.dx_arrays.specs.Classes.{kind_of}
use Rattle.dx_arrays.specs.Corner.{corner_at}
use Rattle.dx_arrays.specs.declared.array.ArrayClass.TheVariants.{GridConnections}
use Rattle.dx_arrays.proofs.Cells.{corner_at-lt, corner_numbers_at, more_than_one, pow_pos}
use Rattle.dx_fields.specs.Stray.{names_item, first_stray}
use Rattle.dx_fields.proofs.StrayLaws.{none_stray}

named : (n m : ℕ) → m < n → names_item n (pos m) ≡ true
named n m h = grind (arith, ints)

corner_named : (cs : List ℕ) (n i p : ℕ) → 0 < product (cells cs) → p < 2 ^ length cs → product cs ≤ n → names_item n (pos (slice_index (corner_numbers cs (indices_of (cells cs) i)) p)) ≡ true
corner_named cs n i p some h few =
    let small : corner_at cs i p < product cs = corner_at-lt cs i p (more_than_one cs some) in
    let at : slice_index (corner_numbers cs (indices_of (cells cs) i)) p ≡ corner_at cs i p = corner_numbers_at cs i p h in
    rw at (named n (corner_at cs i p) (omega (arith, small, few)))

cells_named : (t : ElemType) (es cs : List ℕ) (n : ℕ) → es ≡ 2 ^ length cs ∷ [] → product cs ≤ n → first_stray (record { elem = t; extents = es; class = grid_connections cs }) n ≡ None
cells_named t es cs n e few =
    let a : ArrayData = record { elem = t; extents = es; class = grid_connections cs } in
    let w : product es ≡ 2 ^ length cs * 1 = ap product e in
    let wide : 0 < product es = (let q = pow_pos (length cs) in omega (arith, w, q)) in
    elim (cases_lt 0 (product (cells cs))) [
      | inl some ↦ none_stray a n 0 (product (cells cs) * product es) (λ j l.
          let place : j % product es < product es = mod-lt j wide in
          corner_named cs n (j / product es) (j % product es) some (omega (arith, w, place)) few)
      | inr few_cells ↦
          let none : product (cells cs) ≡ 0 = omega arith in
          let all : product (cells cs) * product es ≡ 0 = rw none (zero-mul (product es)) in
          rw all refl
    ]

joined_by : (t : ElemType) (es : List ℕ) (c : Class) (n : ℕ) → kind_of c ≡ GridConnections → IsOfGrid t es c → product (counts_of c) ≤ n → first_stray (record { elem = t; extents = es; class = c }) n ≡ None
joined_by t es (plain vs) n k g h = absurd (cc k)
joined_by t es (constant m v) n k g h = absurd (cc k)
joined_by t es (regular m o d) n k g h = absurd (cc k)
joined_by t es (grid_positions cs o ds) n k g h = absurd (cc k)
joined_by t es (grid_connections cs) n k g h = cells_named t es cs n g.1 h

-- the cells of a grid that has no more points than there are items
pub joined : (a : ArrayData) (n : ℕ) → IsLawfulArray a → kind_of a.class ≡ GridConnections → min (product (counts_of a.class)) 18446744073709551615 ≤ n → n < 18446744073709551615 → first_stray a n ≡ None
joined a n l k h m = joined_by a.elem a.extents a.class n k l.of_grid (omega (arith, h, m))
