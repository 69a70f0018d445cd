-- The numbers of an array of rank 0.
use Rattle.std.proofs.Common.{◌≡◌, ℕ, ◌+◌, ◌-◌, ◌*◌, ◌/◌, ◌<◌, ◌≤◌, ℤ, List, [], ◌++◌, length, refl, sym, ap, ◌∙◌, subst, arith}
use Rattle.std.specs.Prelude.{Some, nat_le}
use Rattle.std.specs.List.{All}
use Rattle.std.proofs.lemmas.Bool.{and_parts}
use Rattle.std.proofs.lemmas.Bool.Decides.{nat_tests}
use Rattle.std.proofs.lemmas.List.{take_all}
use Rattle.dx_base.specs.Array.{ArrayData, Class, plain, constant, regular, grid_positions, grid_connections, items, items_of, width}
use Rattle.dx_base.specs.ArrayLimits.{IsLawfulArray}
use Rattle.dx_arrays.specs.Block.{values_from, IsSmall}
use Rattle.dx_arrays.specs.Classes.{plain_of}
use Rattle.dx_arrays.proofs.Blocks.{wide, values_append, values_at, length_values, small_at, plain_run}
use Rattle.dx_base.specs.ArrayLimits.{value_count_of}
use Rattle.dx_stats.specs.declared.sums.Sums.{Sums}
use Rattle.dx_stats.specs.Numbers.{numbers}
use Rattle.dx_stats.specs.Statistics.{statistics_of}
use Rattle.dx_stats.specs.Sums.{Adds, AreSums, by_sums}
use Rattle.dx_stats.proofs.Held.{FromNone, IsNone, begin_with, more_numbers, are_sums}

pub single_width : (a : ArrayData) → a.extents ≡ [] → 1 ≡ width a
single_width a e = rw e refl

plain_count_by : (w : ℕ) (c : Class) (vs : List ℤ) → 1 ≡ w → plain_of c ≡ Some vs → items_of w c ≡ length vs
plain_count_by w (plain ws) vs e h =
    let same : ws ≡ vs = cc h in
    let one : length vs / 1 ≡ length vs = omega arith in
    rw (← e, same) one
plain_count_by w (constant n v) vs e h = absurd (cc h)
plain_count_by w (regular n o d) vs e h = absurd (cc h)
plain_count_by w (grid_positions cs o ds) vs e h = absurd (cc h)
plain_count_by w (grid_connections cs) vs e h = absurd (cc h)

-- the numbers of a plain array are its values
pub plain_numbers : (a : ArrayData) (vs : List ℤ) → IsLawfulArray a → a.extents ≡ [] → plain_of a.class ≡ Some vs → numbers a ≡ vs
plain_numbers a vs l e h =
    let count : items a ≡ length vs = plain_count_by (width a) a.class vs (single_width a e) h in
    let run = plain_run a vs 0 (items a) 1 l h (single_width a e) (omega arith) (omega arith) in
    let part : items a * 1 - 0 * 1 ≡ items a = omega arith in
    let whole : items a - 0 ≡ items a = omega arith in
    sym (rw (part, whole) at run) ∙ take_all (items a) vs (omega (arith, count))

-- each is one that some type of values holds
pub small_values : (a : ArrayData) (i n : ℕ) → IsLawfulArray a → i + n ≤ items a → All IsSmall (values_from a i n)
small_values a i n l le k d h =
    let all = length_values a i n in
    let low : k < n * width a = omega (arith, all) in
    rw (values_at a i n k d (wide a l) low) (small_at a i n k l le low)

pub count_values : (a : ArrayData) (i n : ℕ) → a.extents ≡ [] → length (values_from a i n) ≡ n
count_values a i n e =
    let all = length_values a i n in
    let one = single_width a e in
    let row : n * width a ≡ n = rw (← one) (omega arith) in
    all ∙ row

-- the numbers up to one, and those up to a later one
pub values_more : (a : ArrayData) (i j : ℕ) → i ≤ j → values_from a 0 j ≡ values_from a 0 i ++ values_from a i (j - i)
values_more a i j h =
    let split : j ≡ i + (j - i) = omega arith in
    let next : 0 + i ≡ i = omega arith in
    ap (values_from a 0) split ∙ values_append a 0 i (j - i) ∙ ap (λ x. values_from a 0 i ++ values_from a x (j - i)) next

few_by : (w : ℕ) (c : Class) → 1 ≡ w → value_count_of (items_of w c) w c ≤ 16777216 * w → items_of w c ≤ 16777216
few_by w (plain vs) e h =
    let one : length vs / 1 ≡ length vs = omega arith in
    let most = rw (← e) at h in
    rw (← e) (omega (arith, one, most))
few_by w (constant n v) e h = let most = rw (← e) at h in omega (arith, most)
few_by w (regular n o d) e h = let most = rw (← e) at h in omega (arith, most)
few_by w (grid_positions cs o ds) e h = let most = rw (← e) at h in omega (arith, most)
few_by w (grid_connections cs) e h = let most = rw (← e) at h in omega (arith, most)

-- there are no more of them than an array has items
pub few_numbers : (a : ArrayData) → IsLawfulArray a → a.extents ≡ [] → items a ≤ 16777216
few_numbers a l e =
    let n = value_count_of (items a) (width a) a.class in
    let room = (and_parts (nat_le n (16777216 * width a)) (nat_le n 134217728) l.room).0 in
    few_by (width a) a.class (single_width a e) (grind (arith, nat_tests, room))

pub plain_small : (a : ArrayData) (vs : List ℤ) → IsLawfulArray a → a.extents ≡ [] → plain_of a.class ≡ Some vs → All IsSmall vs
plain_small a vs l e h = subst (λ (xs : List ℤ). All IsSmall xs) (plain_numbers a vs l e h) (small_values a 0 (items a) l (omega arith))

-- the sums of the numbers of a plain array
pub plain_sums : (a : ArrayData) (vs : List ℤ) (none s : Sums) → IsLawfulArray a → a.extents ≡ [] → 0 < items a → plain_of a.class ≡ Some vs → IsNone none → Adds none vs s → AreSums (numbers a) s
plain_sums a vs none s l e some h n adds =
    let count : items a ≡ length vs = plain_count_by (width a) a.class vs (single_width a e) h in
    subst (λ (xs : List ℤ). AreSums xs s) (sym (plain_numbers a vs l e h)) (are_sums vs s (omega (arith, count)) (plain_small a vs l e h) (begin_with none s vs n adds))

-- the sums of the numbers that are read in blocks
pub more_items : (a : ArrayData) (i j : ℕ) (s t : Sums) → i ≤ j → FromNone (values_from a 0 i) s → Adds s (values_from a i (j - i)) t → FromNone (values_from a 0 j) t
more_items a i j s t h f adds =
    subst (λ (xs : List ℤ). FromNone xs t) (sym (values_more a i j h)) (more_numbers (values_from a 0 i) (values_from a i (j - i)) s t f adds)

pub all_items : (a : ArrayData) (i n : ℕ) (s : Sums) → IsLawfulArray a → a.extents ≡ [] → 0 < items a → n ≡ items a → i ≤ n → n ≤ i → FromNone (values_from a 0 i) s → AreSums (numbers a) s
all_items a i n s l e some whole le ge f =
    let same : i ≡ items a = omega (arith, whole) in
    let all : FromNone (values_from a 0 (items a)) s = subst (λ (k : ℕ). FromNone (values_from a 0 k) s) same f in
    let count = count_values a 0 (items a) e in
    are_sums (numbers a) s (omega (arith, count)) (small_values a 0 (items a) l (omega arith)) all

pub all_statistics : (a : ArrayData) (s : Sums) → AreSums (numbers a) s → by_sums s ≡ statistics_of (numbers a)
all_statistics a s h = cc (h.count, h.total, h.squares, h.least, h.greatest)

pub some_sums : (a : ArrayData) (s : Sums) → a.extents ≡ [] → 0 < items a → AreSums (numbers a) s → 0 < s.count
some_sums a s e some h =
    let count = count_values a 0 (items a) e in
    let is = h.count in
    omega (arith, count, is)

pub plain_count : (a : ArrayData) (vs : List ℤ) → a.extents ≡ [] → plain_of a.class ≡ Some vs → items a ≡ length vs
plain_count a vs e h = plain_count_by (width a) a.class vs (single_width a e) h

-- all numbers, read behind none
pub all_read : (a : ArrayData) (n : ℕ) (none out read : List ℤ) → n ≡ items a → none ≡ [] → out ≡ none ++ values_from a 0 (n - 0) → read ≡ out → read ≡ numbers a
all_read a n none out read e z h k =
    let whole : n - 0 ≡ items a = omega (arith, e) in
    k ∙ h ∙ ap (λ (xs : List ℤ). xs ++ values_from a 0 (n - 0)) z ∙ ap (values_from a 0) whole

count_read : (a : ArrayData) (read : List ℤ) → a.extents ≡ [] → read ≡ numbers a → length read ≡ items a
count_read a read e h = ap length h ∙ count_values a 0 (items a) e

pub some_read : (a : ArrayData) (read : List ℤ) → a.extents ≡ [] → 0 < items a → read ≡ numbers a → 0 < length read
some_read a read e some h = let count = count_read a read e h in omega (arith, count)

pub few_read : (a : ArrayData) (read : List ℤ) → IsLawfulArray a → a.extents ≡ [] → read ≡ numbers a → length read ≤ 16777216
few_read a read l e h =
    let count = count_read a read e h in
    let few = few_numbers a l e in
    omega (arith, count, few)

pub small_read : (a : ArrayData) (read : List ℤ) → IsLawfulArray a → read ≡ numbers a → All IsSmall read
small_read a read l h = subst (λ (xs : List ℤ). All IsSmall xs) (sym h) (small_values a 0 (items a) l (omega arith))
