-- Arrays whose values lie in ranges.
use Rattle.std.proofs.Common.{◌≡◌, ℕ, zero, suc, ◌+◌, ◌*◌, ◌^◌, ◌<◌, ◌≤◌, min, ℤ, pos, negsuc, ◌+ℤ◌, ◌*ℤ◌, Bor, List, [], ◌∷◌, ◌++◌, ◌⊎◌, inl, inr, length, get_or, Option, Some, None, true, refl, sym, ap, subst, ◌∙◌, arith}
use Rattle.std.specs.Prelude.{◌≤ℤ◌, slice_index, IfSome}
use Rattle.std.proofs.lemmas.Int.{ints}
use Rattle.std.proofs.Math.Nat.{mul-le-mul, mul-le-mul_right}
use Rattle.std.proofs.lemmas.Bool.Decides.{nat_tests}
use Rattle.dx_base.specs.Array.{ArrayData, Class, plain, constant, regular, grid_positions, grid_connections, items, items_of, width, value, value_of, number, product, cells, counts_of, indices_of, corner_numbers}
use Rattle.dx_base.specs.ArrayLimits.{IsLawfulArray, IsOfGrid, is_shape}
use Rattle.dx_base.specs.declared.elem.ElemType.{ElemType}
use Rattle.dx_arrays.proofs.Cells.{corner_numbers_at, corner_at-lt, more_than_one}
use Rattle.dx_arrays.specs.Classes.{kind_of}
use Rattle.dx_arrays.specs.declared.array.ArrayClass.TheVariants.{Constant, Regular, GridConnections}
use Rattle.dx_expr_ranges.specs.declared.range.Range.{Range}
use Rattle.dx_expr_ranges.specs.Ranges.{Keeps, given_for}
use Rattle.dx_compute_meaning.specs.Arrays.{Arrays, array_at, given, item_of, item_counts}
use Rattle.dx_compute_meaning.specs.Operands.{are_all}
use Rattle.dx_compute_meaning.specs.Shown.{shown_arrays, shown_array}
use Rattle.dx_compute_meaning.proofs.Places.{array_here, item_within}
use Rattle.dx_compute_meaning.proofs.Shapes.{size_is}
use Rattle.dx_compute.specs.declared.ranges.Reach.{Reach}
use Rattle.dx_compute.specs.Ranges.{Holds, HoldsItem, HoldsRun, HoldsFor, IsRange, KeepFirst}

-- ---- lists of ranges

at_before : (l : List (Option Range)) (m : Option Range) (k : ℕ) → k < length l → given_for (l ++ m ∷ []) k ≡ given_for l k
at_before [] m k h = absurd (omega arith)
at_before (x ∷ l) m zero h = refl
at_before (x ∷ l) m (suc k) h = at_before l m k (omega arith)

at_end : (l : List (Option Range)) (m : Option Range) → given_for (l ++ m ∷ []) (length l) ≡ m
at_end [] m = refl
at_end (x ∷ l) m = at_end l m

last_or_before : (k n : ℕ) → k < n + 1 → (k < n) ⊎ (k ≡ n)
last_or_before k zero h = inr (omega arith)
last_or_before zero (suc n) h = inl (omega arith)
last_or_before (suc k) (suc n) h = by (last_or_before k n (omega arith))
  where
    by : (k < n) ⊎ (k ≡ n) → (suc k < suc n) ⊎ (suc k ≡ suc n)
    by (inl less) = inl (omega arith)
    by (inr same) = inr (ap suc same)

-- ---- arrays as inputs

-- what an array keeps to by itself, it keeps to in its place among others
keeps_at : (arrays : Arrays) (k from to : ℕ) (o : Option ArrayData) (r : Option Range) → array_at arrays k ≡ o → Keeps (given (o ∷ [])) 0 from to r → Keeps (given arrays) k from to r
keeps_at arrays k from to o None is keeps = tt
keeps_at arrays k from to o (Some r) is keeps = record { count = rw is keeps.count; values = rw is keeps.values }

pub next_range : (xs : List (Option (Bor ArrayData))) (from to : ℕ) (ranges : List (Option Range)) (i : ℕ) (m : Option Range) (x : Option (Bor ArrayData)) → i < length xs → i ≡ length ranges → x ≡ get_or xs i x →
    Keeps (given (shown_array x ∷ [])) 0 from to m → KeepFirst (shown_arrays xs) i from to ranges → KeepFirst (shown_arrays xs) (i + 1) from to (ranges ++ m ∷ [])
next_range xs from to ranges i m x below long is keeps before k h = by (last_or_before k i h)
  where
    by : (k < i) ⊎ (k ≡ i) → Keeps (given (shown_arrays xs)) k from to (given_for (ranges ++ m ∷ []) k)
    by (inl less) = subst (Keeps (given (shown_arrays xs)) k from to) (sym (at_before ranges m k (omega (arith, less, long)))) (before k less)
    by (inr same) =
        let here : array_at (shown_arrays xs) k ≡ shown_array x = ap (array_at (shown_arrays xs)) same ∙ array_here xs i x below is in
        let range : given_for (ranges ++ m ∷ []) k ≡ m = ap (given_for (ranges ++ m ∷ [])) (same ∙ long) ∙ at_end ranges m in
        subst (Keeps (given (shown_arrays xs)) k from to) (sym range) (keeps_at (shown_arrays xs) k from to (shown_array x) m here keeps)

-- an item that there is stands for one of each array
pub within_each : (xs : List (Option (Bor ArrayData))) (n to i : ℕ) (x : Option (Bor ArrayData)) → i < length xs → x ≡ get_or xs i x → are_all n (item_counts (shown_arrays xs)) ≡ true → to ≤ n →
    IfSome x (λ a. (item : ℕ) → item < to → item_of a.now item < items a.now)
within_each xs n to i None below is alike few = tt
within_each xs n to i (Some a) below is alike few = λ item h. item_within (shown_arrays xs) n i item a.now alike (array_here xs i (Some a) below is) (omega (arith, h, few))

-- ---- runs of an array

-- one item more
pub run_more : (a : ArrayData) (r own more : Reach) (from to : ℕ) → ((v : ℤ) → Holds r v → Holds more v) → ((v : ℤ) → Holds own v → Holds more v) → HoldsRun a r from to → HoldsItem a own to → HoldsRun a more from (to + 1)
run_more a r own more from to wider adds holds next item place h g inside = by (last_or_before item to g)
  where
    by : (item < to) ⊎ (item ≡ to) → Holds more (value a item place)
    by (inl less) = wider (value a item place) (holds item place h less inside)
    by (inr same) = subst (λ i. Holds more (value a i place)) (sym same) (adds (value a to place) (next place inside))

line_low : (o d low : ℤ) (f i l : ℕ) → f ≤ i → i ≤ l → low ≤ℤ (o +ℤ pos f *ℤ d) → low ≤ℤ (o +ℤ pos l *ℤ d) → low ≤ℤ (o +ℤ pos i *ℤ d)
line_low o (pos e) low f i l h g first last = let k : f * e ≤ i * e = mul-le-mul_right e h in omega (arith, ints)
line_low o (negsuc e) low f i l h g first last = let k : i * suc e ≤ l * suc e = mul-le-mul_right (suc e) g in omega (arith, ints)

line_high : (o d high : ℤ) (f i l : ℕ) → f ≤ i → i ≤ l → (o +ℤ pos f *ℤ d) ≤ℤ high → (o +ℤ pos l *ℤ d) ≤ℤ high → (o +ℤ pos i *ℤ d) ≤ℤ high
line_high o (pos e) high f i l h g first last = let k : i * e ≤ l * e = mul-le-mul_right e g in omega (arith, ints)
line_high o (negsuc e) high f i l h g first last = let k : f * suc e ≤ i * suc e = mul-le-mul_right (suc e) h in omega (arith, ints)

-- where an item's values lie between those of two others
between_by : (w : ℕ) (c : Class) (r : Reach) (f i l place : ℕ) → kind_of c ≡ Regular → f ≤ i → i ≤ l → Holds r (value_of w c f place) → Holds r (value_of w c l place) →
    (r.low ≤ℤ value_of w c i place) × (value_of w c i place ≤ℤ r.high)
between_by w (plain vs) r f i l place is h g first last = absurd cc
between_by w (constant n v) r f i l place is h g first last = absurd cc
between_by w (regular n o d) r f i l place is h g first last =
    (line_low (number o place) (number d place) r.low f i l h g first.low last.low, line_high (number o place) (number d place) r.high f i l h g first.high last.high)
between_by w (grid_positions cs o ds) r f i l place is h g first last = absurd cc
between_by w (grid_connections cs) r f i l place is h g first last = absurd cc

pub ends_run : (a : ArrayData) (r filled : Reach) (from last : ℕ) → kind_of a.class ≡ Regular → HoldsItem a r from → HoldsItem a r last → ((v : ℤ) → r.low ≤ℤ v → v ≤ℤ r.high → Holds filled v) → HoldsRun a filled from (last + 1)
ends_run a r filled from last is first end fill item place h g inside =
    let k = between_by (width a) a.class r from item last place is h (omega (arith, g)) (first place inside) (end place inside) in
    fill (value a item place) k.0 k.1

constant_by : (w : ℕ) (c : Class) (i j place : ℕ) → kind_of c ≡ Constant → value_of w c i place ≡ value_of w c j place
constant_by w (plain vs) i j place is = absurd cc
constant_by w (constant n v) i j place is = refl
constant_by w (regular n o d) i j place is = absurd cc
constant_by w (grid_positions cs o ds) i j place is = absurd cc
constant_by w (grid_connections cs) i j place is = absurd cc

pub constant_run : (a : ArrayData) (r : Reach) (from to : ℕ) → kind_of a.class ≡ Constant → HoldsItem a r from → HoldsRun a r from to
constant_run a r from to is holds item place h g inside = subst (Holds r) (constant_by (width a) a.class from item place is) (holds place inside)

-- the values of cells are numbers of points
cell_value : (cs : List ℕ) (i place : ℕ) → i < product (cells cs) → place < 2 ^ length cs → slice_index (corner_numbers cs (indices_of (cells cs) i)) place < product cs
cell_value cs i place h inside = let k = corner_numbers_at cs i place inside in omega (arith, k, corner_at-lt cs i place (more_than_one cs (omega (arith, h))))

cells_by : (t : ElemType) (es : List ℕ) (c : Class) (r : Reach) (points item place : ℕ) → kind_of c ≡ GridConnections → IsOfGrid t es c → points ≡ min (product (counts_of c)) 18446744073709551615 → points ≤ 2147483647 →
    r.low ≡ pos 0 → r.high ≡ pos points → r.zero ≡ true → item < items_of (product es) c → place < product es → Holds r (value_of (product es) c item place)
cells_by t es (plain vs) r points item place is grid many few low high may h inside = absurd cc
cells_by t es (constant n v) r points item place is grid many few low high may h inside = absurd cc
cells_by t es (regular n o d) r points item place is grid many few low high may h inside = absurd cc
cells_by t es (grid_positions cs o ds) r points item place is grid many few low high may h inside = absurd cc
cells_by t es (grid_connections cs) r points item place is grid many few low high may h inside =
    let wide : product es ≡ 2 ^ length cs * 1 = ap product grid.1 in
    let k = cell_value cs item place h (omega (arith, wide, inside)) in
    record { low = rw low (omega (arith, ints)); high = rw high (omega (arith, ints)); zero = λ is. may }

pub cells_run : (a : ArrayData) (r : Reach) (points : ℕ) → IsLawfulArray a → kind_of a.class ≡ GridConnections → points ≡ min (product (counts_of a.class)) 18446744073709551615 → points ≤ 2147483647 →
    r.low ≡ pos 0 → r.high ≡ pos points → r.zero ≡ true → HoldsRun a r 0 (items a)
cells_run a r points lawful is many few low high may item place h g inside = cells_by a.elem a.extents a.class r points item place is lawful.of_grid many few low high may g inside

-- ---- the range of an array

pub width_few : (es : List ℕ) → is_shape es ≡ true → product es ≤ 65536
width_few [] h = omega arith
width_few (e ∷ []) h = let k : e ≤ 256 = grind (arith, nat_tests) in omega (arith, k)
width_few (e ∷ f ∷ []) h =
    let k : e ≤ 256 = grind (arith, nat_tests) in
    let m : f ≤ 256 = grind (arith, nat_tests) in
    let p : e * f ≤ 256 * 256 = mul-le-mul k m in
    omega (arith, p)
width_few (e ∷ f ∷ g ∷ es) h = absurd (grind (arith, nat_tests))

pub keeps_reach : (a : ArrayData) (from to count : ℕ) (reach : Reach) (o : Option Range) → count ≡ width a → IfSome o (λ r. IsRange reach count r) → HoldsFor a reach from to → Keeps (given (Some a ∷ [])) 0 from to o
keeps_reach a from to count reach None wide is holds = tt
keeps_reach a from to count reach (Some r) wide is holds = record {
  count = size_is a.extents ∙ sym wide ∙ sym is.count;
  values = λ item place h g inside. is.values _ (holds item place h g (subst (λ m. place < m) (size_is a.extents) inside));
}
