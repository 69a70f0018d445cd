-- The items that a slab keeps, as runs of items in a row.
use Rattle.std.proofs.Common.{◌≡◌, ℕ, zero, suc, ◌+◌, ◌-◌, ◌*◌, ◌/◌, ◌%◌, ◌<◌, ◌≤◌, ℤ, List, [], ◌∷◌, ◌++◌, length, get_or, take, drop, Bool, true, false, refl, sym, ap, ◌∙◌, append-nil, length-append, length-drop, arith}
use Rattle.std.specs.Prelude.{min}
use Rattle.std.specs.List.{All, filter, range_with_len, flat_map}
use Rattle.std.proofs.lemmas.Bool.{le-leb, lt-leb}
use Rattle.std.proofs.lemmas.List.Elements.{All-head, All-tail, All-cons, filter-append}
use Rattle.std.proofs.lemmas.List.{take_all}
use Rattle.std.proofs.lemmas.List.Concat.{flat_map-append}
use Rattle.std.proofs.lemmas.Nat.{le-div, div_below}
use Rattle.std.proofs.Math.Nat.{mul_assoc, add-mul, suc-mul, mul-le-mul_left, mul-le-mul_right, mul-add-div_right, mul-add-mod_self_right, mod-eq_of_lt}
use Rattle.dx_base.specs.Array.{ArrayData, product, item, width}
use Rattle.dx_arrays.specs.Block.{values_from}
use Rattle.dx_arrays.proofs.Blocks as blocks
use Rattle.dx_arrays.proofs.Products.{product-pos}
use Rattle.dx_slab.specs.Kept.{index_in, is_among, kept}
use Rattle.dx_slab.specs.Runs.{run_items, run_values, AreWithin}
use Rattle.dx_slab.specs.declared.runs.Runs.{Runs}

-- ---- ranges under a filter

range_more : (a m n : ℕ) → range_with_len a (m + n) ≡ range_with_len a m ++ range_with_len (a + m) n
range_more a zero n = let e : zero + n ≡ n = omega arith in let f : a + zero ≡ a = omega arith in rw (e, f) refl
range_more a (suc m) n =
    let e : suc m + n ≡ suc (m + n) = omega arith in
    let f : a + suc m ≡ a + 1 + m = omega arith in
    rw (e, f) (ap (λ r. a ∷ r) (range_more (a + 1) m n))

filter_all : (p : ℕ → Bool) (a n : ℕ) → ((i : ℕ) → a ≤ i → i < a + n → p i ≡ true) → filter p (range_with_len a n) ≡ range_with_len a n
filter_all p a zero h = refl
filter_all p a (suc n) h =
    let here : p a ≡ true = h a (omega arith) (omega arith) in
    rw here (ap (λ r. a ∷ r) (filter_all p (a + 1) n (λ i l m. h i (omega arith) (omega arith))))

filter_none : (p : ℕ → Bool) (a n : ℕ) → ((i : ℕ) → a ≤ i → i < a + n → p i ≡ false) → filter p (range_with_len a n) ≡ []
filter_none p a zero h = refl
filter_none p a (suc n) h =
    let here : p a ≡ false = h a (omega arith) (omega arith) in
    rw here (filter_none p (a + 1) n (λ i l m. h i (omega arith) (omega arith)))

-- of the items from a on, those that stand behind the first s and are l
filter_middle : (p : ℕ → Bool) (a s l r : ℕ) →
    ((i : ℕ) → a ≤ i → i < a + s → p i ≡ false) →
    ((i : ℕ) → a + s ≤ i → i < a + s + l → p i ≡ true) →
    ((i : ℕ) → a + s + l ≤ i → i < a + s + l + r → p i ≡ false) →
    filter p (range_with_len a (s + l + r)) ≡ range_with_len (a + s) l
filter_middle p a s l r before within behind =
    let outer : range_with_len a (s + l + r) ≡ range_with_len a (s + l) ++ range_with_len (a + (s + l)) r = range_more a (s + l) r in
    let inner : range_with_len a (s + l) ≡ range_with_len a s ++ range_with_len (a + s) l = range_more a s l in
    let one : filter p (range_with_len a s) ≡ [] = filter_none p a s before in
    let two : filter p (range_with_len (a + s) l) ≡ range_with_len (a + s) l = filter_all p (a + s) l within in
    let three : filter p (range_with_len (a + (s + l)) r) ≡ [] = filter_none p (a + (s + l)) r (λ i h k. behind i (omega arith) (omega arith)) in
    rw outer (filter-append p (range_with_len a (s + l)) (range_with_len (a + (s + l)) r)
    ∙ rw (three, inner) (ap (λ xs. xs ++ []) (filter-append p (range_with_len a s) (range_with_len (a + s) l)) ∙ rw (one, two) (append-none (range_with_len (a + s) l))))
  where
    append-none : (xs : List ℕ) → [] ++ xs ++ [] ≡ xs
    append-none [] = refl
    append-none (x ∷ xs) = ap (λ r. x ∷ r) (append-none xs)

-- where each of m blocks of s items keeps a run, all keep the runs
filter_blocks : (p : ℕ → Bool) (s start l m : ℕ) → ((k : ℕ) → k < m → filter p (range_with_len (k * s) s) ≡ range_with_len (k * s + start) l) →
    filter p (range_with_len 0 (m * s)) ≡ flat_map (λ k. range_with_len (k * s + start) l) (range_with_len 0 m)
filter_blocks p s start l zero h = let none : zero * s ≡ 0 = omega arith in rw none refl
filter_blocks p s start l (suc m) h =
    let row : suc m * s ≡ m * s + s = suc-mul m s in
    let one : suc m ≡ m + 1 = omega arith in
    let base : 0 + m * s ≡ m * s = omega arith in
    let last : 0 + m ≡ m = omega arith in
    let f : ℕ → List ℕ = λ k. range_with_len (k * s + start) l in
    let split : range_with_len 0 (m * s + s) ≡ range_with_len 0 (m * s) ++ range_with_len (m * s) s = range_more 0 (m * s) s ∙ ap (λ a. range_with_len 0 (m * s) ++ range_with_len a s) base in
    let more : range_with_len 0 (suc m) ≡ range_with_len 0 m ++ m ∷ [] = ap (range_with_len 0) one ∙ range_more 0 m 1 ∙ ap (λ a. range_with_len 0 m ++ a ∷ []) last in
    let before = filter_blocks p s start l m (λ k lt. h k (omega arith)) in
    let here = h m (omega arith) in
    let end : f m ++ [] ≡ f m = append-nil-of (f m) in
    let joined : filter p (range_with_len 0 (m * s)) ++ filter p (range_with_len (m * s) s) ≡ flat_map f (range_with_len 0 m) ++ f m = rw (before, here) refl in
    ap (λ n. filter p (range_with_len 0 n)) row ∙ ap (filter p) split ∙ filter-append p (range_with_len 0 (m * s)) (range_with_len (m * s) s) ∙ joined
    ∙ sym (ap (flat_map f) more ∙ flat_map-append f (range_with_len 0 m) (m ∷ []) ∙ ap (λ xs. flat_map f (range_with_len 0 m) ++ xs) end)
  where
    append-nil-of : (xs : List ℕ) → xs ++ [] ≡ xs
    append-nil-of [] = refl
    append-nil-of (x ∷ xs) = ap (λ r. x ∷ r) (append-nil-of xs)

-- ---- the index of an item

index_is : (xs : List ℕ) (c : ℕ) (ys : List ℕ) (i : ℕ) → index_in (xs ++ c ∷ ys) (length xs) i ≡ i / product ys % c
index_is [] c ys i = refl
index_is (x ∷ xs) c ys i = index_is xs c ys i

product_split : (xs : List ℕ) (c : ℕ) (ys : List ℕ) → product (xs ++ c ∷ ys) ≡ product xs * (c * product ys)
product_split [] c ys = omega arith
product_split (x ∷ xs) c ys = ap (λ n. x * n) (product_split xs c ys) ∙ sym (mul_assoc x (product xs) (c * product ys))

-- the index of an item by its place in its block
place_index : (w c k j : ℕ) → 0 < w → j < c * w → (k * (c * w) + j) / w % c ≡ j / w
place_index w c k j some h =
    let flat : k * (c * w) + j ≡ k * c * w + j = ap (λ x. x + j) (sym (mul_assoc k c w)) in
    let row : (k * c * w + j) / w ≡ k * c + j / w = mul-add-div_right some (k * c) j in
    let below : j / w < c = div_below j w c some h in
    rw (flat, row, mul-add-mod_self_right k c (j / w)) (mod-eq_of_lt below)

among : (first n k : ℕ) → first ≤ k → k < first + n → is_among first n k ≡ true
among first n k h l = rw (le-leb first k h, le-leb (suc k) (first + n) (omega arith)) refl

below_them : (first n k : ℕ) → k < first → is_among first n k ≡ false
below_them first n k h = rw (lt-leb first k h) refl

behind_them : (first n k : ℕ) → first + n ≤ k → is_among first n k ≡ false
behind_them first n k h = rw (le-leb first k (omega arith), lt-leb (suc k) (first + n) (omega arith)) refl

block_keeps : (w c first n k : ℕ) (p : ℕ → Bool) → 0 < w → first + n ≤ c → ((j : ℕ) → j < c * w → p (k * (c * w) + j) ≡ is_among first n (j / w)) →
    filter p (range_with_len (k * (c * w)) (c * w)) ≡ range_with_len (k * (c * w) + first * w) (n * w)
block_keeps w c first n k p some fit at =
    let base = k * (c * w) in
    let rows : (first + n) * w ≤ c * w = mul-le-mul_right w fit in
    let parts : (first + n) * w ≡ first * w + n * w = add-mul first n w in
    let rest : ℕ = c * w - (first * w + n * w) in
    let whole : c * w ≡ first * w + n * w + rest = omega (arith, rows, parts) in
    let here : (i : ℕ) → base ≤ i → i < base + c * w → p i ≡ is_among first n ((i - base) / w) =
    (λ i h l. let same : base + (i - base) ≡ i = omega arith in ap p (sym same) ∙ at (i - base) (omega arith)) in
    let cut = filter_middle p base (first * w) (n * w) rest
    (λ i h l. here i h (omega (arith, whole)) ∙ below_them first n ((i - base) / w) (div_below (i - base) w first some (omega arith)))
    (λ i h l. here i (omega arith) (omega (arith, whole)) ∙ among first n ((i - base) / w) (le-div first (i - base) w some (omega arith)) (div_below (i - base) w (first + n) some (omega (arith, parts))))
    (λ i h l. here i (omega arith) (omega (arith, whole)) ∙ behind_them first n ((i - base) / w) (le-div (first + n) (i - base) w some (omega (arith, parts)))) in
    ap (λ s. filter p (range_with_len base s)) whole ∙ cut

kept_split : (xs : List ℕ) (c : ℕ) (ys : List ℕ) (first n : ℕ) → 0 < product ys → first + n ≤ c →
    kept (xs ++ c ∷ ys) (length xs) first n ≡ run_items (record { count = product xs; stride = c * product ys; start = first * product ys; len = n * product ys })
unfolding kept run_items
kept_split xs c ys first n some fit =
    let w = product ys in
    let p : ℕ → Bool = λ i. is_among first n (index_in (xs ++ c ∷ ys) (length xs) i) in
    rw (product_split xs c ys) (filter_blocks p (c * w) (first * w) (n * w) (product xs)
    (λ k lt. block_keeps w c first n k p some fit
    (λ j l. ap (is_among first n) (index_is xs c ys (k * (c * w) + j) ∙ place_index w c k j some l))))

-- ---- by the place in the list of extents

here_split : (es : List ℕ) (d : ℕ) → d < length es → es ≡ take d es ++ get_or es d 0 ∷ drop (suc d) es
here_split [] d h = absurd (omega arith)
here_split (e ∷ es) zero h = refl
here_split (e ∷ es) (suc d) h = ap (λ r. e ∷ r) (here_split es d (omega arith))

length_front : (es : List ℕ) (d : ℕ) → d < length es → length (take d es) ≡ d
length_front [] d h = absurd (omega arith)
length_front (e ∷ es) zero h = refl
length_front (e ∷ es) (suc d) h = ap suc (length_front es d (omega arith))

all_drop : (es : List ℕ) (d : ℕ) → All (λ e. 0 < e) es → All (λ e. 0 < e) (drop d es)
all_drop es zero h = h
all_drop [] (suc d) h = h
all_drop (e ∷ es) (suc d) h = all_drop es d (All-tail (λ x. 0 < x) e es h)

pub record AreRunsOf (es : List ℕ) (d first n : ℕ) (r : Runs) : Type 0 where
  pub count : r.count ≡ product (take d es)
  pub stride : r.stride ≡ get_or es d 0 * product (drop (d + 1) es)
  pub start : r.start ≡ first * product (drop (d + 1) es)
  pub len : r.len ≡ n * product (drop (d + 1) es)

pub kept_runs : (es : List ℕ) (d first n : ℕ) (r : Runs) → d < length es → first + n ≤ get_or es d 0 → All (λ e. 0 < e) es → AreRunsOf es d first n r → kept es d first n ≡ run_items r
kept_runs es d first n r h fit some are =
    let one : d + 1 ≡ suc d = omega arith in
    let positive : 0 < product (drop (suc d) es) = product-pos (drop (suc d) es) (all_drop es (suc d) some) in
    let split = here_split es d h in
    let own : kept es d first n ≡ kept (take d es ++ get_or es d 0 ∷ drop (suc d) es) (length (take d es)) first n =
    ap (λ xs. kept xs d first n) split ∙ ap (λ k. kept (take d es ++ get_or es d 0 ∷ drop (suc d) es) k first n) (sym (length_front es d h)) in
    let same : r ≡ record { count = product (take d es); stride = get_or es d 0 * product (drop (suc d) es); start = first * product (drop (suc d) es); len = n * product (drop (suc d) es) } =
    (let a = are.count in let b : r.stride ≡ get_or es d 0 * product (drop (suc d) es) = rw one at are.stride in let e : r.start ≡ first * product (drop (suc d) es) = rw one at are.start in let f : r.len ≡ n * product (drop (suc d) es) = rw one at are.len in
    λ i. record { count = a i; stride = b i; start = e i; len = f i }) in
    own ∙ kept_split (take d es) (get_or es d 0) (drop (suc d) es) first n positive fit ∙ ap run_items (sym same)

pub runs_within : (es : List ℕ) (d first n : ℕ) (r : Runs) → d < length es → first + n ≤ get_or es d 0 → AreRunsOf es d first n r → AreWithin r (product es)
runs_within es d first n r h fit are =
    let one : d + 1 ≡ suc d = omega arith in
    let w = product (drop (suc d) es) in
    let all : product es ≡ product (take d es) * (get_or es d 0 * w) = ap product (here_split es d h) ∙ product_split (take d es) (get_or es d 0) (drop (suc d) es) in
    let rows : (first + n) * w ≤ get_or es d 0 * w = mul-le-mul_right w fit in
    let parts : (first + n) * w ≡ first * w + n * w = add-mul first n w in
    let b : r.stride ≡ get_or es d 0 * w = rw one at are.stride in
    let e : r.start ≡ first * w = rw one at are.start in
    let f : r.len ≡ n * w = rw one at are.len in
    record { run = omega (arith, rows, parts, b, e, f); all = rw (are.count, b, all) (omega arith) }

-- ---- how large the numbers are

pub record AreSmall (es : List ℕ) (d first n : ℕ) : Type 0 where
  pub front : product (take d es) ≤ 16777216
  pub behind : product (drop (d + 1) es) ≤ 16777216
  pub stride : get_or es d 0 * product (drop (d + 1) es) ≤ 16777216
  pub start : first * product (drop (d + 1) es) ≤ 16777216
  pub len : n * product (drop (d + 1) es) ≤ 16777216

all_take : (es : List ℕ) (d : ℕ) → All (λ e. 0 < e) es → All (λ e. 0 < e) (take d es)
all_take es zero h = λ k d l. absurd (omega arith)
all_take [] (suc d) h = h
all_take (e ∷ es) (suc d) h = All-cons (λ x. 0 < x) e (take d es) (All-head (λ x. 0 < x) e es h) (all_take es d (All-tail (λ x. 0 < x) e es h))

pub are_small : (es : List ℕ) (d first n : ℕ) → d < length es → first + n ≤ get_or es d 0 → All (λ e. 0 < e) es → product es ≤ 16777216 → AreSmall es d first n
are_small es d first n h fit some few =
    let one : d + 1 ≡ suc d = omega arith in
    let f = product (take d es) in
    let w = product (drop (suc d) es) in
    let c = get_or es d 0 in
    let all : product es ≡ f * (c * w) = ap product (here_split es d h) ∙ product_split (take d es) c (drop (suc d) es) in
    let f_some : 0 < f = product-pos (take d es) (all_take es d some) in
    let w_some : 0 < w = product-pos (drop (suc d) es) (all_drop es (suc d) some) in
    let c_some : 0 < c = some d 0 h in
    let f_one : 1 ≤ f = omega (arith, f_some) in
    let c_one : 1 ≤ c = omega (arith, c_some) in
    let columns : 1 * w ≤ c * w = mul-le-mul_right w c_one in
    let cw_one : 1 ≤ c * w = omega (arith, columns, w_some) in
    let rows : (first + n) * w ≤ c * w = mul-le-mul_right w fit in
    let parts : (first + n) * w ≡ first * w + n * w = add-mul first n w in
    let block : 1 * (c * w) ≤ f * (c * w) = mul-le-mul_right (c * w) f_one in
    let fronts : f * 1 ≤ f * (c * w) = mul-le-mul_left f cw_one in
    record {
      front = omega (arith, all, fronts, few);
      behind = rw one (omega (arith, all, block, columns, few));
      stride = rw one (omega (arith, all, block, few));
      start = rw one (omega (arith, all, block, rows, parts, few));
      len = rw one (omega (arith, all, block, rows, parts, few));
    }

-- the end of run number k
pub run_ends : (r : Runs) (n k : ℕ) → AreWithin r n → k < r.count → k * r.stride + r.start + r.len ≤ n
run_ends r n k h lt =
    let rows : (k + 1) * r.stride ≤ r.count * r.stride = (let next : k + 1 ≤ r.count = omega arith in mul-le-mul_right r.stride next) in
    let parts : (k + 1) * r.stride ≡ k * r.stride + 1 * r.stride = add-mul k 1 r.stride in
    omega (arith, rows, parts, h.run, h.all)

pub run_total : (r : Runs) (n : ℕ) → AreWithin r n → r.count * r.len ≤ n
run_total r n h =
    let rows : r.count * r.len ≤ r.count * r.stride = (let short : r.len ≤ r.stride = omega (arith, h.run) in mul-le-mul_left r.count short) in
    omega (arith, rows, h.all)

-- ---- the values of runs

pub values_none : (a : ArrayData) (r : Runs) → run_values a r 0 ≡ []
unfolding run_values
values_none a r = refl

pub values_more : (a : ArrayData) (r : Runs) (k : ℕ) → run_values a r (k + 1) ≡ run_values a r k ++ values_from a (k * r.stride + r.start) r.len
unfolding run_values
values_more a r k =
    let f : ℕ → List ℤ = λ j. values_from a (j * r.stride + r.start) r.len in
    let more : range_with_len 0 (k + 1) ≡ range_with_len 0 k ++ k ∷ [] = range_more 0 k 1 ∙ ap (λ x. range_with_len 0 k ++ x ∷ []) (omega arith) in
    rw more (flat_map-append f (range_with_len 0 k) (k ∷ []) ∙ ap (λ xs. flat_map f (range_with_len 0 k) ++ xs) (append-nil (f k)))

flat_twice : {X Y Z : Type 0} (g : Y → List Z) (f : X → List Y) (xs : List X) → flat_map g (flat_map f xs) ≡ flat_map (λ x. flat_map g (f x)) xs
flat_twice g f [] = refl
flat_twice g f (x ∷ xs) = flat_map-append g (f x) (flat_map f xs) ∙ ap (λ ys. flat_map g (f x) ++ ys) (flat_twice g f xs)

-- all runs have the values of all items
pub values_all : (a : ArrayData) (r : Runs) → flat_map (item a) (run_items r) ≡ run_values a r r.count
unfolding run_items run_values values_from
values_all a r = flat_twice (item a) (λ k. range_with_len (k * r.stride + r.start) r.len) (range_with_len 0 r.count)

pub length_values : (a : ArrayData) (r : Runs) (k : ℕ) → length (run_values a r k) ≡ k * r.len * width a
length_values a r zero = ap length (values_none a r) ∙ omega arith
length_values a r (suc k) =
    let one : suc k ≡ k + 1 = omega arith in
    let row : suc k * r.len ≡ k * r.len + r.len = suc-mul k r.len in
    let parts : (k * r.len + r.len) * width a ≡ k * r.len * width a + r.len * width a = add-mul (k * r.len) r.len (width a) in
    let below = length_values a r k in
    let here = blocks.length_values a (k * r.stride + r.start) r.len in
    ap length (ap (run_values a r) one ∙ values_more a r k) ∙ length-append (run_values a r k) (values_from a (k * r.stride + r.start) r.len) ∙ rw (row, parts, below, here) refl

-- the extents behind a dimension, as a slice has them
pub behind_all : (es : List ℕ) (k : ℕ) → take (length es - k) (drop k es) ≡ drop k es
behind_all es k = take_all (length es - k) (drop k es) (let len = length-drop k es in omega (arith, len))

-- what a count of points is that stands for a product
pub count_is : (es front : List ℕ) (n : ℕ) → n ≡ min (product es) 18446744073709551615 → front ≡ es → product es ≤ 16777216 → n ≡ product front
count_is es front n e f few = rw f (omega (arith, e))

-- a count is no more than all points
pub count_few : (es : List ℕ) (d : ℕ) → d < length es → All (λ e. 0 < e) es → product es ≤ 16777216 → get_or es d 0 ≤ 16777216
count_few es d h some few =
    let small = are_small es d 0 (get_or es d 0) h (omega arith) some few in
    let one : d + 1 ≡ suc d = omega arith in
    let positive : 0 < product (drop (d + 1) es) = rw one (product-pos (drop (suc d) es) (all_drop es (suc d) some)) in
    let next : 1 ≤ product (drop (d + 1) es) = omega (arith, positive) in
    let rows : get_or es d 0 * 1 ≤ get_or es d 0 * product (drop (d + 1) es) = mul-le-mul_left (get_or es d 0) next in
    omega (arith, rows, small.stride)
