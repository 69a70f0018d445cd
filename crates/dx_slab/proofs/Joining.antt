-- The cells of a slab: no more than those of the grid, and they can be made.
use Rattle.std.proofs.Common.{◌≡◌, ℕ, zero, suc, ◌+◌, ◌-◌, ◌*◌, ◌^◌, ◌<◌, ◌≤◌, List, [], ◌∷◌, length, get_or, set, Bool, true, false, ◌&&◌, None, Some, refl, ap, ◌∙◌, arith}
use Rattle.std.specs.Prelude.{nat_le, ◌==◌, if◌then◌else◌}
use Rattle.std.specs.List.{All, list_all}
use Rattle.std.proofs.lemmas.Bool.{le-leb}
use Rattle.std.proofs.lemmas.Bool.Decides.{nat_tests}
use Rattle.std.proofs.lemmas.List.Elements.{All-head, All-tail, All-cons}
use Rattle.std.specs.Cmp.Derive.{both_true}
use Rattle.std.proofs.Math.Nat.{mul-le-mul_left, mul-le-mul_right, pow-le-pow_right}
use Rattle.dx_base.specs.declared.elem.ElemType.{ElemType}
use Rattle.dx_base.specs.declared.elem.ElemType.TheVariants.{Int}
use Rattle.dx_base.specs.Array.{ArrayData, Class, plain, constant, regular, grid_positions, grid_connections, product, cells, items, width}
use Rattle.dx_base.specs.ArrayLimits.{IsLawfulArray, IsOfGrid, is_shape}
use Rattle.dx_arrays.specs.Makes.{refusal}
use Rattle.dx_arrays.proofs.Blocks.{roomy}
use Rattle.dx_arrays.proofs.Cells.{corners-le, pow_pos}
use Rattle.dx_arrays.proofs.InType.{connections_in_type}
use Rattle.dx_fields.specs.Grids.{cell_counts, without_ones}
use Rattle.dx_object_laws.proofs.PutLaws.{by_bool}
use Rattle.dx_slab.specs.Cuts.{cut_counts, cells_along, cell_extents, first_cell, cells_kept, joined_counts, cut_connections}
use Rattle.dx_slab.specs.Lawful.{IsCutOf}
use Rattle.dx_slab.specs.declared.cut.Cut.{Cut}
use Rattle.dx_slab.proofs.Gathering.{itemed}
use Rattle.dx_slab.proofs.Shifting.{all_set, list_all_some}

-- ---- the counts without ones, and the cells along each dimension

product_by : (b : Bool) (c : ℕ) (xs : List ℕ) → product (cells (if b then xs else c ∷ xs)) ≡ (if b then 1 else c - 1) * product (cells xs)
product_by true c xs = omega arith
product_by false c xs = refl

-- the cells are those that stand side by side along all dimensions
pub cells_product : (cs : List ℕ) → product (cells (without_ones cs)) ≡ product (cell_extents cs)
cells_product [] = refl
cells_product (c ∷ cs) = product_by (c == 1) c (without_ones cs) ∙ ap (λ n. cells_along c * n) (cells_product cs)

along_some : (c : ℕ) → 0 < c → 0 < cells_along c
along_some c h = by_bool (c == 1) _ (λ e. rw e (omega arith)) (λ e. rw e (grind (arith, nat_tests)))

along_le : (n c : ℕ) → 0 < n → n ≤ c → cells_along n ≤ cells_along c
along_le n c h k =
    by_bool (n == 1) _
    (λ e. let one : 0 < cells_along c = along_some c (omega arith) in rw e (omega (arith, one)))
    (λ e. by_bool (c == 1) _
    (λ f. absurd (grind (arith, nat_tests)))
    (λ f. rw (e, f) (omega arith)))

extents_set : (cs : List ℕ) (d n : ℕ) → cell_extents (set cs d n) ≡ set (cell_extents cs) d (cells_along n)
extents_set [] d n = refl
extents_set (c ∷ cs) zero n = refl
extents_set (c ∷ cs) (suc d) n = ap (λ xs. cells_along c ∷ xs) (extents_set cs d n)

extents_shrink : (cs : List ℕ) (d n : ℕ) → 0 < n → n ≤ get_or cs d 0 → product (cell_extents (set cs d n)) ≤ product (cell_extents cs)
extents_shrink [] d n h k = omega arith
extents_shrink (c ∷ cs) zero n h k = mul-le-mul_right (product (cell_extents cs)) (along_le n c h k)
extents_shrink (c ∷ cs) (suc d) n h k = mul-le-mul_left (cells_along c) (extents_shrink cs d n h k)

pub extents_some : (cs : List ℕ) → All (λ c. 0 < c) cs → All (λ c. 0 < c) (cell_extents cs)
extents_some [] h = h
extents_some (c ∷ cs) h = All-cons (λ x. 0 < x) (cells_along c) (cell_extents cs) (along_some c (All-head (λ x. 0 < x) c cs h)) (extents_some cs (All-tail (λ x. 0 < x) c cs h))

pub extent_at : (cs : List ℕ) (d : ℕ) → d < length cs → get_or (cell_extents cs) d 0 ≡ cells_along (get_or cs d 0)
extent_at [] d h = absurd (omega arith)
extent_at (c ∷ cs) zero h = refl
extent_at (c ∷ cs) (suc d) h = extent_at cs d (omega arith)

pub length-extents : (cs : List ℕ) → length (cell_extents cs) ≡ length cs
length-extents [] = refl
length-extents (c ∷ cs) = ap suc (length-extents cs)

-- the kept cells stand among those of the dimension
pub kept_end : (p : ℕ) (c : Cut) → c.first + c.thickness < p → first_cell p c + cells_kept c ≤ cells_along p
kept_end p c h =
    by_bool (c.thickness == 0) _
    (λ e. by_bool (c.first == p - 1) _
    (λ f. by_bool (p == 1) _ (λ g. rw (e, f, g) (grind (arith, nat_tests))) (λ g. rw (e, f, g) (grind (arith, nat_tests))))
    (λ f. by_bool (p == 1) _ (λ g. rw (e, f, g) (grind (arith, nat_tests))) (λ g. rw (e, f, g) (grind (arith, nat_tests)))))
    (λ e. by_bool (p == 1) _ (λ g. rw (e, g) (grind (arith, nat_tests))) (λ g. rw (e, g) (grind (arith, nat_tests))))

-- ---- the cells can be made

ones_some : (cs : List ℕ) → All (λ c. 0 < c) cs → All (λ c. 0 < c) (without_ones cs)
ones_some [] h = h
ones_some (c ∷ cs) h =
    let rest = ones_some cs (All-tail (λ x. 0 < x) c cs h) in
    by_bool (c == 1) _
    (λ e. rw e rest)
    (λ e. rw e (All-cons (λ x. 0 < x) c (without_ones cs) (All-head (λ x. 0 < x) c cs h) rest))

length_by : (b : Bool) (c : ℕ) (xs : List ℕ) → length (if b then xs else c ∷ xs) ≡ (if b then 0 else 1) + length xs
length_by true c xs = omega arith
length_by false c xs = omega arith

ones_length : (cs : List ℕ) → length (without_ones cs) ≤ length cs
ones_length [] = omega arith
ones_length (c ∷ cs) =
    let below = ones_length cs in
    by_bool (c == 1) _ (λ e. rw e (omega (arith, below))) (λ e. rw e (omega (arith, below)))

pub length_shrinks : (cs : List ℕ) (d n : ℕ) → 0 < n → n ≤ get_or cs d 0 → length (without_ones (set cs d n)) ≤ length (without_ones cs)
length_shrinks [] d n h k = omega arith
length_shrinks (c ∷ cs) zero n h k =
    by_bool (n == 1) _
    (λ e. by_bool (c == 1) _ (λ f. rw (e, f) (omega arith)) (λ f. rw (e, f) (omega arith)))
    (λ e. by_bool (c == 1) _ (λ f. absurd (grind (arith, nat_tests))) (λ f. rw (e, f) (omega arith)))
length_shrinks (c ∷ cs) (suc d) n h k =
    let below = length_shrinks cs d n h k in
    by_bool (c == 1) _ (λ e. rw e below) (λ e. rw e (omega (arith, below)))

-- the kind of array that a grid's cells are
record IsCells (a : ArrayData) (ks : List ℕ) : Type 0 where
  items : items a ≡ product (cells ks)
  width : width a ≡ 2 ^ length ks * 1

cells_by : (t : ElemType) (es : List ℕ) (c : Class) (ks : List ℕ) → IsOfGrid t es c → cell_counts c ≡ Some ks → IsCells (record { elem = t; extents = es; class = c }) ks
cells_by t es (plain vs) ks g e = absurd (cc e)
cells_by t es (constant n v) ks g e = absurd (cc e)
cells_by t es (regular n o d) ks g e = absurd (cc e)
cells_by t es (grid_positions ds o d) ks g e = absurd (cc e)
cells_by t es (grid_connections ds) ks g e =
    let same : ds ≡ ks = cc in
    record { items = ap (λ k. product (cells k)) same; width = ap product g.1 ∙ ap (λ k. 2 ^ length k * 1) same }

pub joined_refusal : (a : ArrayData) (cs : List ℕ) (c : Cut) → IsLawfulArray a → cell_counts a.class ≡ Some (without_ones cs) → IsCutOf cs c → 0 < length (joined_counts cs c) → refusal (cut_connections cs c) ≡ None
joined_refusal a cs c l e cut some =
    let j = joined_counts cs c in
    let k = without_ones cs in
    let is : IsCells a k = cells_by a.elem a.extents a.class k l.of_grid e in
    let end : c.thickness + 1 ≤ get_or cs c.dimension 0 = (let h = cut.end in omega (arith, h)) in
    let one : 0 < c.thickness + 1 = omega arith in
    let fewer : product (cells j) ≤ product (cells k) = rw (cells_product (cut_counts cs c), cells_product cs) (extents_shrink cs c.dimension (c.thickness + 1) one end) in
    let most = itemed a l in
    let held : product (cells j) ≤ 16777216 = (let n = is.items in omega (arith, fewer, most, n)) in
    let shorter : length j ≤ length k = length_shrinks cs c.dimension (c.thickness + 1) one end in
    let short : length j ≤ 3 = (let n = ones_length cs in let m = cut.counts.dimensions in omega (arith, shorter, n, m)) in
    let small : 2 ^ length j ≤ 8 = corners-le j short in
    let positive : 0 < 2 ^ length j = pow_pos (length j) in
    let thinner : 2 ^ length j ≤ 2 ^ length k = pow-le-pow_right two shorter in
    let all = list_all_some j (ones_some (cut_counts cs c) (all_set cs c.dimension (c.thickness + 1) one cut.counts.some)) in
    let shape_of : is_shape (2 ^ length j ∷ []) ≡ true = both_true (le-leb 1 2 (omega arith)) (both_true (both_true (le-leb 1 (2 ^ length j) (omega (arith, positive))) (le-leb (2 ^ length j) 256 (omega (arith, small)))) refl) in
    let shape : (is_shape (2 ^ length j ∷ []) && (nat_le 1 (length j) && nat_le (length j) 3 && list_all (λ n. nat_le 1 n) j)) ≡ true =
    both_true shape_of (both_true (both_true (le-leb 1 (length j) (omega (arith, some))) (le-leb (length j) 3 short)) all) in
    let rows : product (cells j) * (2 ^ length j * 1) ≤ 16777216 * (2 ^ length j * 1) = mul-le-mul_right (2 ^ length j * 1) held in
    let values : product (cells j) * (2 ^ length j * 1) ≤ 134217728 =
    (let old = roomy a l in
    let whole : product (cells k) * (2 ^ length k * 1) ≤ 134217728 = rw (is.items, is.width) at old in
    let wide : 2 ^ length j * 1 ≤ 2 ^ length k * 1 = omega (arith, thinner) in
    let across = mul-le-mul_left (product (cells j)) wide in
    let down = mul-le-mul_right (2 ^ length k * 1) fewer in
    omega (arith, whole, across, down)) in
    let room : (nat_le (product (cells j) * (2 ^ length j * 1)) (16777216 * (2 ^ length j * 1)) && nat_le (product (cells j) * (2 ^ length j * 1)) 134217728) ≡ true =
    both_true (le-leb _ _ rows) (le-leb _ _ values) in
    let types = connections_in_type j short held in
    rw (shape, room, types) refl
  where
    two : 0 < 2
    two = omega arith

-- ---- as the code makes it

abbrev pub connections_array : List ℕ → ArrayData
connections_array ks = record { elem = Int; extents = 2 ^ length ks ∷ []; class = grid_connections ks }
