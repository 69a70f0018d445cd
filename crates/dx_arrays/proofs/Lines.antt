-- Along a line of items each place grows by the same from item to item.
use Rattle.std.proofs.Common.{◌≡◌, ℕ, suc, ◌+◌, ◌-◌, ◌*◌, ◌/◌, ◌%◌, ◌^◌, ◌<◌, ℤ, pos, ◌+ℤ◌, ◌*ℤ◌, List, [], ◌∷◌, length, drop, true, ◌&&◌, get_or, inl, inr, refl, sym, ap, ◌∙◌, arith}
use Rattle.std.proofs.lemmas.Int.{ints}
use Rattle.std.proofs.lemmas.Nat.{div-add-mod'}
use Rattle.std.specs.Prelude.{slice_index}
use Rattle.std.proofs.lemmas.Bool.{and_parts, cases_lt}
use Rattle.std.proofs.lemmas.Bool.Decides.{nat_tests}
use Rattle.std.proofs.Math.Nat.{zero-mul, mul_assoc, mul_comm, div-div-eq-div-mul, div-one}
use Rattle.std.proofs.Math.IntN.{suc_ℤ-*ℤ, +ℤ_one}
use Rattle.dx_base.specs.declared.elem.ElemType.{ElemType}
use Rattle.dx_base.specs.Array.{ArrayData, Class, plain, constant, regular, grid_positions, grid_connections, product, cells, indices_of, offset, number, corner_numbers, value_of, value, width}
use Rattle.dx_base.specs.ArrayLimits.{IsLawfulArray, is_shape, is_grid}
use Rattle.dx_arrays.specs.Block.{last_count, line_len, IsOnLine}
use Rattle.dx_arrays.specs.Corner.{corner_at}
use Rattle.dx_arrays.proofs.Cells.{corner_numbers_at}

-- the index along the last dimension grows by one
digit_next : (i c : ℕ) → i / c ≡ (i + 1) / c → (i + 1) % c ≡ i % c + 1
digit_next i c h =
    let here : i / c * c + i % c ≡ i = div-add-mod' i c in
    let there : (i + 1) / c * c + (i + 1) % c ≡ i + 1 = div-add-mod' (i + 1) c in
    let same : i / c * c ≡ (i + 1) / c * c = ap (λ x. x * c) h in
    omega (arith, here, there, same)

-- the last count divides the product of all
last_divides : (c : ℕ) (cs : List ℕ) → (q : ℕ) × (product (c ∷ cs) ≡ last_count (c ∷ cs) * q)
last_divides c [] = (1, refl)
last_divides c (d ∷ cs) =
    let below = last_divides d cs in
    let q : ℕ = below.0 in
    let l : ℕ = last_count (d ∷ cs) in
    (c * q, ap (λ x. c * x) below.1 ∙ sym (mul_assoc c l q) ∙ ap (λ x. x * q) (mul_comm c l) ∙ mul_assoc l c q)

pub last_pos : (cs : List ℕ) → 0 < product cs → 0 < last_count cs
last_pos [] h = omega arith
last_pos (c ∷ cs) h =
    let q = last_divides c cs in
    elim (cases_lt 0 (last_count (c ∷ cs))) [
      | inl some ↦ some
      | inr none ↦ absurd (let e : last_count (c ∷ cs) ≡ 0 = omega arith in let zero : last_count (c ∷ cs) * q.0 ≡ 0 = rw e (zero-mul q.0) in omega (arith, zero, q.1))
    ]

pub last_at : (cs : List ℕ) → 0 < length cs → get_or cs (length cs - 1) 0 ≡ last_count cs
last_at [] h = absurd (omega arith)
last_at (c ∷ []) h = refl
last_at (c ∷ d ∷ cs) h = let e : length (c ∷ d ∷ cs) - 1 ≡ suc (length (d ∷ cs) - 1) = omega arith in rw e (last_at (d ∷ cs) (omega arith))

pub last_cells : (cs : List ℕ) → 0 < length cs → last_count (cells cs) ≡ last_count cs - 1
last_cells [] h = absurd (omega arith)
last_cells (c ∷ []) h = refl
last_cells (c ∷ d ∷ cs) h = last_cells (d ∷ cs) (omega arith)

-- so no index but the last changes along a line
same_above : (i c : ℕ) (cs : List ℕ) → i / last_count (c ∷ cs) ≡ (i + 1) / last_count (c ∷ cs) → i / product (c ∷ cs) ≡ (i + 1) / product (c ∷ cs)
same_above i c cs h =
    let q = last_divides c cs in
    let l : ℕ = last_count (c ∷ cs) in
    rw q.1 (sym (div-div-eq-div-mul i l q.0) ∙ ap (λ x. x / q.0) h ∙ div-div-eq-div-mul (i + 1) l q.0)

-- one index more is one delta more
scaled_next : (x : ℕ) (d : ℤ) → pos (x + 1) *ℤ d ≡ pos x *ℤ d +ℤ d
scaled_next x d = ap (λ z. z *ℤ d) (+ℤ_one (pos x)) ∙ suc_ℤ-*ℤ (pos x) d

-- what one item more adds to the offset in a place: the delta of the last dimension
abbrev pub last_delta : ℕ → List ℕ → List ℤ → ℕ → ℤ
last_delta n [] ds place = pos 0
last_delta n (c ∷ []) ds place = number ds place
last_delta n (c ∷ d ∷ cs) ds place = last_delta n (d ∷ cs) (drop n ds) place

offset_next : (n : ℕ) (cs : List ℕ) (ds : List ℤ) (i place : ℕ) → 0 < length cs → i / last_count cs ≡ (i + 1) / last_count cs →
    offset n (indices_of cs (i + 1)) ds place ≡ offset n (indices_of cs i) ds place +ℤ last_delta n cs ds place
offset_next n [] ds i place some h = absurd (omega arith)
offset_next n (c ∷ []) ds i place some h =
    let digit : (i + 1) / 1 % c ≡ i / 1 % c + 1 = rw (div-one (i + 1), div-one i) (digit_next i c h) in
    let next = scaled_next (i / 1 % c) (number ds place) in
    rw (digit, next) (omega (arith, ints))
offset_next n (c ∷ d ∷ cs) ds i place some h =
    let same = same_above i d cs h in
    let below = offset_next n (d ∷ cs) (drop n ds) i place (omega arith) h in
    rw (← same, below) (omega (arith, ints))

-- the number of each corner grows by one from cell to cell
corner_next : (cs : List ℕ) (i place : ℕ) → 0 < length cs → i / last_count (cells cs) ≡ (i + 1) / last_count (cells cs) → corner_at cs (i + 1) place ≡ corner_at cs i place + 1
corner_next [] i place some h = absurd (omega arith)
corner_next (c ∷ []) i place some h =
    let digit : (i + 1) / 1 % (c - 1) ≡ i / 1 % (c - 1) + 1 = rw (div-one (i + 1), div-one i) (digit_next i (c - 1) h) in
    rw digit (omega arith)
corner_next (c ∷ d ∷ cs) i place some h =
    let same = same_above i (d - 1) (cells cs) h in
    let below = corner_next (d ∷ cs) i place (omega arith) h in
    rw (← same, below) (omega arith)

-- what one item more adds in a place
abbrev pub growth : Class → ℕ → ℤ
growth (plain vs) place = pos 0
growth (constant n v) place = pos 0
growth (regular n o d) place = number d place
growth (grid_positions cs o ds) place = last_delta (length cs) cs ds place
growth (grid_connections cs) place = pos 1

-- a grid has a dimension
pub grid_some : (es cs : List ℕ) → (is_shape es && is_grid cs) ≡ true → 0 < length cs
grid_some es cs h = let g = (and_parts (is_shape es) (is_grid cs) h).1 in grind (arith, nat_tests)

next_by : (t : ElemType) (es : List ℕ) (c : Class) (i place : ℕ) → IsLawfulArray (record { elem = t; extents = es; class = c }) → place < product es →
    i / line_len c ≡ (i + 1) / line_len c → value_of (product es) c (i + 1) place ≡ value_of (product es) c i place +ℤ growth c place
next_by t es (plain vs) i place l k h = absurd (let e : i ≡ i + 1 = sym (div-one i) ∙ h ∙ div-one (i + 1) in omega (arith, e))
next_by t es (constant n v) i place l k h = omega (arith, ints)
next_by t es (regular n o d) i place l k h =
    let next = scaled_next i (number d place) in
    rw next (omega (arith, ints))
next_by t es (grid_positions cs o ds) i place l k h =
    let next = offset_next (length cs) cs ds i place (grid_some es cs l.shape) h in
    rw next (omega (arith, ints))
next_by t es (grid_connections cs) i place l k h =
    let some : 0 < length cs = grid_some es cs l.shape in
    let wide : product es ≡ 2 ^ length cs * 1 = ap product l.of_grid.1 in
    let inside : place < 2 ^ length cs = omega (arith, wide) in
    let here : slice_index (corner_numbers cs (indices_of (cells cs) i)) place ≡ corner_at cs i place = corner_numbers_at cs i place inside in
    let there : slice_index (corner_numbers cs (indices_of (cells cs) (i + 1))) place ≡ corner_at cs (i + 1) place = corner_numbers_at cs (i + 1) place inside in
    let next : corner_at cs (i + 1) place ≡ corner_at cs i place + 1 = corner_next cs i place some h in
    ap pos (there ∙ next ∙ ap (λ x. x + 1) (sym here))

-- the next item on a line, in a place
pub value_next : (a : ArrayData) (i place : ℕ) → IsLawfulArray a → place < width a → i / line_len a.class ≡ (i + 1) / line_len a.class → value a (i + 1) place ≡ value a i place +ℤ growth a.class place
value_next a i place l k h = next_by a.elem a.extents a.class i place l k h

-- so each item is told by the two before it
pub value_third : (a : ArrayData) (i place : ℕ) → IsLawfulArray a → place < width a → IsOnLine a i (i + 1) → IsOnLine a (i + 1) (i + 1 + 1) → value a (i + 1 + 1) place +ℤ value a i place ≡ value a (i + 1) place +ℤ value a (i + 1) place
value_third a i place l k h n =
    let first = value_next a i place l k h in
    let second = value_next a (i + 1) place l k n in
    omega (arith, ints, first, second)
