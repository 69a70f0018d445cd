-- Whether all values of an array are of its type, by class: the test of a few values decides it.
use Rattle.std.proofs.Common.{◌≡◌, ℕ, zero, suc, ◌+◌, ◌-◌, ◌*◌, ◌/◌, ◌%◌, ◌<◌, ◌≤◌, ℤ, pos, negsuc, ◌+ℤ◌, ◌*ℤ◌, ◌≤ℤ◌, List, [], ◌∷◌, ◌^◌, length, Bool, true, refl, subst, arith}
use Rattle.std.specs.Prelude.{int_le, slice_index}
use Rattle.std.specs.List.{All, list_all}
use Rattle.std.proofs.lemmas.Int.{ints}
use Rattle.std.proofs.lemmas.Bool.{and_parts}
use Rattle.std.specs.Cmp.Derive.{both_true}
use Rattle.std.proofs.Math.Nat.{mul-le-mul_right, div-lt_iff_lt-mul, mod-lt}
use Rattle.std.proofs.lemmas.Nat.{div-add-mod'}
use Rattle.dx_base.specs.declared.elem.ElemType.{ElemType}
use Rattle.dx_base.specs.declared.elem.ElemType.TheVariants.{Int}
use Rattle.dx_base.specs.Elem.{in_range, lowest, highest}
use Rattle.dx_base.specs.Array.{plain, constant, regular, grid_positions, grid_connections, cells, corner_numbers, product, number, offset, indices_of}
use Rattle.dx_base.specs.ArrayLimits.{is_in_type}
use Rattle.dx_arrays.specs.Reach.{line_fits, lines_fit, point_fits, points_fit, lowest_offset, highest_offset}
use Rattle.dx_arrays.proofs.Each.{bool_ext, each-at, each-of, values-at, values-of}
use Rattle.dx_arrays.proofs.Products.{place-lt}
use Rattle.dx_arrays.specs.Corner.{corner_at}
use Rattle.dx_arrays.proofs.Cells.{corner_at-lt, corner_numbers_at, more_than_one, points_few}
use Rattle.dx_arrays.proofs.Corners.{offset-le_highest, lowest-le_offset, highest_reached, lowest_reached}

pub all-at : (p : ℤ → Bool) (vs : List ℤ) (k : ℕ) → list_all p vs ≡ true → k < length vs → p (number vs k) ≡ true
all-at p [] k h l = absurd (omega arith)
all-at p (v ∷ vs) zero h l = (and_parts (p v) (list_all p vs) h).0
all-at p (v ∷ vs) (suc k) h l = all-at p vs k (and_parts (p v) (list_all p vs) h).1 (omega arith)

pub all-of : (p : ℤ → Bool) (vs : List ℤ) → ((k : ℕ) → k < length vs → p (number vs k) ≡ true) → list_all p vs ≡ true
all-of p [] h = refl
all-of p (v ∷ vs) h = both_true (h 0 (omega arith)) (all-of p vs (λ k l. h (suc k) (omega arith)))

pub plain_in_type : (t : ElemType) (es : List ℕ) (vs : List ℤ) → 0 < product es → length vs % product es ≡ 0 →
    list_all (in_range t) vs ≡ is_in_type (record { elem = t; extents = es; class = plain vs })
plain_in_type t es vs some whole =
    let w = product es in
    let n = length vs / w in
    let all : n * w + length vs % w ≡ length vs = div-add-mod' (length vs) w in
    let full : n * w ≡ length vs = omega (arith, all) in
    bool_ext _ _
    (λ h. values-of (in_range t) (λ i p. number vs (i * w + p)) n w (λ i p l k. all-at (in_range t) vs (i * w + p) h (place-lt i w p (length vs) l k)))
    (λ h. all-of (in_range t) vs (λ k l.
    let row : k / w < n = (div-lt_iff_lt-mul {x = k} {y = n} some).1 (rw full l) in
    let at : in_range t (number vs (k / w * w + k % w)) ≡ true = values-at (in_range t) (λ i p. number vs (i * w + p)) n w (k / w) (k % w) h row (mod-lt k some) in
    subst (λ (j : ℕ). in_range t (number vs j) ≡ true) (div-add-mod' k w) at))

pub constant_in_type : (t : ElemType) (es : List ℕ) (n : ℕ) (v : List ℤ) → list_all (in_range t) v ≡ is_in_type (record { elem = t; extents = es; class = constant n v })
constant_in_type t es n v = bool_ext _ _ (λ h. both_true h refl) (λ h. (and_parts (list_all (in_range t) v) true h).0)

le_of_test : (a b : ℤ) → int_le a b ≡ true → a ≤ℤ b
le_of_test a b h = grind (arith, ints)

test_of_le : (a b : ℤ) → a ≤ℤ b → int_le a b ≡ true
test_of_le a b h = grind (arith, ints)

-- a number between two of the type is of the type
pub between : (t : ElemType) (a v b : ℤ) → a ≤ℤ v → v ≤ℤ b → in_range t a ≡ true → in_range t b ≡ true → in_range t v ≡ true
between t a v b l h p q =
    let low : lowest t ≤ℤ a = le_of_test _ _ (and_parts (int_le (lowest t) a) (int_le a (highest t)) p).0 in
    let high : b ≤ℤ highest t = le_of_test _ _ (and_parts (int_le (lowest t) b) (int_le b (highest t)) q).1 in
    let below : lowest t ≤ℤ v = omega (arith, ints, low, l) in
    let above : v ≤ℤ highest t = omega (arith, ints, high, h) in
    both_true (test_of_le (lowest t) v below) (test_of_le v (highest t) above)

-- the values of a line between its ends
pub on_line : (t : ElemType) (o d : ℤ) (i m : ℕ) → i ≤ m → line_fits t m o d ≡ true → in_range t (o +ℤ pos i *ℤ d) ≡ true
on_line t o (pos e) i m h f =
    let ends = and_parts (in_range t o) (in_range t (o +ℤ pos m *ℤ pos e)) f in
    let p = mul-le-mul_right e h in
    between t o (o +ℤ pos i *ℤ pos e) (o +ℤ pos m *ℤ pos e) (omega (arith, ints)) (omega (arith, ints, p)) ends.0 ends.1
on_line t o (negsuc e) i m h f =
    let ends = and_parts (in_range t o) (in_range t (o +ℤ pos m *ℤ negsuc e)) f in
    let p = mul-le-mul_right (suc e) h in
    between t (o +ℤ pos m *ℤ negsuc e) (o +ℤ pos i *ℤ negsuc e) o (omega (arith, ints, p)) (omega (arith, ints)) ends.1 ends.0

pub regular_in_type : (t : ElemType) (es : List ℕ) (n : ℕ) (o d : List ℤ) → 0 < n → length o ≡ product es →
    lines_fit t (n - 1) o d ≡ is_in_type (record { elem = t; extents = es; class = regular n o d })
regular_in_type t es n o d some len =
    let w = product es in
    let fits : ℕ → Bool = λ p. line_fits t (n - 1) (number o p) (number d p) in
    let at : ℕ → ℕ → ℤ = λ i p. number o p +ℤ pos i *ℤ number d p in
    bool_ext _ _
    (λ h. values-of (in_range t) at n w (λ i p l k. on_line t (number o p) (number d p) i (n - 1) (omega arith) (each-at fits (length o) p h (omega arith))))
    (λ h. each-of fits (length o) (λ p k.
    let first : in_range t (number o p +ℤ pos 0 *ℤ number d p) ≡ true = values-at (in_range t) at n w 0 p h some (omega arith) in
    let none : number o p +ℤ pos 0 *ℤ number d p ≡ number o p = omega (arith, ints) in
    both_true (subst (λ (z : ℤ). in_range t z ≡ true) none first) (values-at (in_range t) at n w (n - 1) p h (omega arith) (omega arith))))

pub positions_in_type : (cs : List ℕ) (o ds : List ℤ) → All (λ c. 0 < c) cs → points_fit cs o ds ≡ is_in_type (record { elem = Int; extents = length cs ∷ []; class = grid_positions cs o ds })
positions_in_type cs o ds some =
    let n = length cs in
    let w = n * 1 in
    let fits : ℕ → Bool = point_fits cs o ds in
    let at : ℕ → ℕ → ℤ = λ i p. number o p +ℤ offset n (indices_of cs i) ds p in
    bool_ext _ _
    (λ h. values-of (in_range Int) at (product cs) w (λ i p l k.
    let ends = and_parts (in_range Int (number o p +ℤ lowest_offset n cs ds p)) (in_range Int (number o p +ℤ highest_offset n cs ds p)) (each-at fits n p h (omega arith)) in
    between Int (number o p +ℤ lowest_offset n cs ds p) (at i p) (number o p +ℤ highest_offset n cs ds p)
    (omega (arith, ints, lowest-le_offset n cs ds i p some)) (omega (arith, ints, offset-le_highest n cs ds i p some)) ends.0 ends.1))
    (λ h. each-of fits n (λ p k.
    let low = lowest_reached n cs ds p some in
    let high = highest_reached n cs ds p some in
    let below = values-at (in_range Int) at (product cs) w low.0 p h low.1 (omega arith) in
    let above = values-at (in_range Int) at (product cs) w high.0 p h high.1 (omega arith) in
    both_true (subst (λ (z : ℤ). in_range Int (number o p +ℤ z) ≡ true) low.2 below) (subst (λ (z : ℤ). in_range Int (number o p +ℤ z) ≡ true) high.2 above)))

int_of_small : (n : ℕ) → n < 2147483648 → in_range Int (pos n) ≡ true
int_of_small n h = grind (arith, ints)

-- the numbers of the corners are ints
pub connections_in_type : (cs : List ℕ) → length cs ≤ 3 → product (cells cs) ≤ 16777216 → is_in_type (record { elem = Int; extents = 2 ^ length cs ∷ []; class = grid_connections cs }) ≡ true
connections_in_type cs h few =
    let q = 2 ^ length cs in
    values-of (in_range Int) (λ i p. pos (slice_index (corner_numbers cs (indices_of (cells cs) i)) p)) (product (cells cs)) (q * 1) (λ i p l k.
    let some : 0 < product (cells cs) = omega arith in
    let small : corner_at cs i p < product cs = corner_at-lt cs i p (more_than_one cs some) in
    let points = points_few cs h some few in
    let at : slice_index (corner_numbers cs (indices_of (cells cs) i)) p ≡ corner_at cs i p = corner_numbers_at cs i p (omega arith) in
    rw at (int_of_small (corner_at cs i p) (omega (arith, small, points))))
