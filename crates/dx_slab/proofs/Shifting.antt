-- The points of a slab are points of the grid: their indices are moved along one dimension.
use Rattle.std.proofs.Common.{◌≡◌, ℕ, zero, suc, ◌+◌, ◌*◌, ◌/◌, ◌%◌, ◌<◌, ◌≤◌, ℤ, pos, ◌+ℤ◌, ◌*ℤ◌, List, [], ◌∷◌, length, get_or, drop, set, true, ◌&&◌, Some, None, refl, sym, ap, subst, ◌∙◌, arith}
use Rattle.std.specs.Prelude.{map, nat_le, ◌==◌}
use Rattle.std.specs.List.{All, list_all, range_with_len}
use Rattle.std.proofs.lemmas.Bool.{and_parts, le-leb, eqb-true}
use Rattle.std.proofs.lemmas.Bool.Decides.{nat_tests}
use Rattle.std.proofs.lemmas.Int.{ints}
use Rattle.std.proofs.lemmas.List.{get_or-drop, length-set}
use Rattle.std.proofs.lemmas.List.Elements.{All-head, All-tail, All-cons}
use Rattle.std.proofs.lemmas.List.FromFn.{get_or-map-range_with_len, length-map-range_with_len}
use Rattle.std.specs.Cmp.Derive.{both_true}
use Rattle.std.proofs.Math.Nat.{mul-le-mul_left, mul-le-mul_right, mul-div_left, mod-eq_of_lt, div-eq_of_lt}
use Rattle.dx_base.specs.declared.elem.ElemType.{ElemType}
use Rattle.dx_base.specs.declared.elem.ElemType.TheVariants.{Int}
use Rattle.dx_base.specs.Elem.{in_range}
use Rattle.dx_base.specs.Array.{ArrayData, Class, plain, constant, regular, grid_positions, grid_connections, origin_of, deltas_of, product, indices_of, point_number, offset, number, value, value_of, items, item, width}
use Rattle.dx_base.specs.ArrayLimits.{IsLawfulArray, IsOfGrid, is_shape, has_lengths_of}
use Rattle.dx_arrays.specs.Laws.{IsPoint}
use Rattle.dx_arrays.specs.Makes.{refusal}
use Rattle.dx_arrays.proofs.Corners.{indices_of-add, point-lt}
use Rattle.dx_arrays.proofs.Each.{values-of}
use Rattle.dx_arrays.proofs.Fits.{value_in_type}
use Rattle.dx_arrays.proofs.PointLaws.{IsPoint-indices_of, point_number-lt, indices_of-point_number}
use Rattle.dx_arrays.proofs.Products.{product-pos}
use Rattle.dx_fields.specs.Grids.{point_counts}
use Rattle.dx_slab.specs.Cuts.{cut_counts, cut_class, moved, cut_positions}
use Rattle.dx_slab.specs.Lawful.{IsCutOf}
use Rattle.dx_slab.specs.declared.cut.Cut.{Cut}

-- the indices with the one of dimension d moved by q
abbrev shift : ℕ → ℕ → List ℕ → List ℕ
shift d q [] = []
shift zero q (i ∷ is) = (i + q) ∷ is
shift (suc d) q (i ∷ is) = i ∷ shift d q is

-- that moves the point by so many deltas
offset_shift : (n d q : ℕ) (is : List ℕ) (ds : List ℤ) (place : ℕ) → d < length is → offset n (shift d q is) ds place ≡ offset n is ds place +ℤ pos q *ℤ number ds (d * n + place)
offset_shift n d q [] ds place h = absurd (omega arith)
offset_shift n zero q (i ∷ is) ds place h =
    let none : zero * n + place ≡ place = omega arith in
    rw none (omega (arith, ints))
offset_shift n (suc d) q (i ∷ is) ds place h =
    let rest = offset_shift n d q is (drop n ds) place (omega arith) in
    let at : number (drop n ds) (d * n + place) ≡ number ds (n + (d * n + place)) = get_or-drop n ds (d * n + place) (pos 0) in
    let next : n + (d * n + place) ≡ suc d * n + place = omega arith in
    let own = ap (number ds) next in
    rw (rest, at, own) (omega (arith, ints))

-- ---- the first of the kept points

abbrev zeros : List ℕ → List ℕ
zeros [] = []
zeros (c ∷ cs) = 0 ∷ zeros cs

offset_zeros : (n : ℕ) (cs : List ℕ) (ds : List ℤ) (place : ℕ) → offset n (zeros cs) ds place ≡ pos 0
offset_zeros n [] ds place = refl
offset_zeros n (c ∷ cs) ds place = rw (offset_zeros n cs (drop n ds) place) (omega (arith, ints))

length_zeros : (cs : List ℕ) → length (zeros cs) ≡ length cs
length_zeros [] = refl
length_zeros (c ∷ cs) = ap suc (length_zeros cs)

indices_zero : (cs : List ℕ) → All (λ c. 0 < c) cs → indices_of cs 0 ≡ zeros cs
indices_zero [] h = refl
indices_zero (c ∷ cs) h =
    let some = product-pos cs (All-tail (λ x. 0 < x) c cs h) in
    let row : 0 / product cs ≡ 0 = div-eq_of_lt some in
    let here : 0 % c ≡ 0 = mod-eq_of_lt (All-head (λ x. 0 < x) c cs h) in
    rw (row, here, indices_zero cs (All-tail (λ x. 0 < x) c cs h)) refl

first_lt : (cs : List ℕ) (d q : ℕ) → All (λ c. 0 < c) cs → d < length cs → q < get_or cs d 0 → q * product (drop (suc d) cs) < product cs
first_lt [] d q h l k = absurd (omega arith)
first_lt (c ∷ cs) zero q h l k =
    let some = product-pos cs (All-tail (λ x. 0 < x) c cs h) in
    let flat = point-lt c cs q 0 k some in
    omega (arith, flat)
first_lt (c ∷ cs) (suc d) q h l k =
    let below = first_lt cs d q (All-tail (λ x. 0 < x) c cs h) (omega arith) k in
    let one : 1 ≤ c = All-head (λ x. 0 < x) c cs h in
    let rows : 1 * product cs ≤ c * product cs = mul-le-mul_right (product cs) one in
    omega (arith, below, rows)

first_indices : (cs : List ℕ) (d q : ℕ) → All (λ c. 0 < c) cs → d < length cs → q < get_or cs d 0 → indices_of cs (q * product (drop (suc d) cs)) ≡ shift d q (zeros cs)
first_indices [] d q h l k = absurd (omega arith)
first_indices (c ∷ cs) zero q h l k =
    let rest = All-tail (λ x. 0 < x) c cs h in
    let some = product-pos cs rest in
    let row : q * product cs / product cs ≡ q = mul-div_left q some in
    let here : q % c ≡ q = mod-eq_of_lt k in
    let flat : q * product cs + 0 ≡ q * product cs = omega arith in
    let same : indices_of cs (q * product cs) ≡ zeros cs = ap (indices_of cs) (sym flat) ∙ indices_of-add cs q 0 rest ∙ indices_zero cs rest in
    let none : 0 + q ≡ q = omega arith in
    rw (row, here, same, none) refl
first_indices (c ∷ cs) (suc d) q h l k =
    let rest = All-tail (λ x. 0 < x) c cs h in
    let below = first_lt cs d q rest (omega arith) k in
    let row : q * product (drop (suc d) cs) / product cs ≡ 0 = div-eq_of_lt below in
    let here : 0 % c ≡ 0 = mod-eq_of_lt (All-head (λ x. 0 < x) c cs h) in
    rw (row, here, first_indices cs d q rest (omega arith) k) refl

-- the kind of array that a grid's points are
pub record IsPoints (a : ArrayData) (cs : List ℕ) (o ds : List ℤ) : Type 0 where
  pub class : a.class ≡ grid_positions cs o ds
  pub elem : a.elem ≡ Int
  pub extents : a.extents ≡ length cs ∷ []
  pub origin : length o ≡ length cs
  pub deltas : length ds ≡ length cs * length cs
  pub items : items a ≡ product cs
  pub width : width a ≡ length cs

pub first_value : (a : ArrayData) (cs : List ℕ) (o ds : List ℤ) (c : Cut) (place : ℕ) → IsPoints a cs o ds → IsCutOf cs c →
    value a (c.first * product (drop (suc c.dimension) cs)) place ≡ number o place +ℤ pos c.first *ℤ number ds (c.dimension * length o + place)
first_value a cs o ds c place is cut =
    let d = c.dimension in
    let q = c.first in
    let at : q < get_or cs d 0 = (let end = cut.end in omega (arith, end)) in
    let indices = first_indices cs d q cut.counts.some cut.dimension at in
    let own : value a (q * product (drop (suc d) cs)) place ≡ number o place +ℤ offset (length cs) (indices_of cs (q * product (drop (suc d) cs))) ds place =
    ap (λ k. value_of (width a) k (q * product (drop (suc d) cs)) place) is.class in
    let long : d < length (zeros cs) = rw (length_zeros cs) cut.dimension in
    let moved_by : offset (length cs) (shift d q (zeros cs)) ds place ≡ pos q *ℤ number ds (d * length cs + place) =
    offset_shift (length cs) d q (zeros cs) ds place long ∙ rw (offset_zeros (length cs) cs ds place) (omega (arith, ints)) in
    own ∙ rw (indices, moved_by, is.origin) refl

points_by : (t : ElemType) (es : List ℕ) (c : Class) (cs : List ℕ) → has_lengths_of (product es) c ≡ true → IsOfGrid t es c → point_counts c ≡ Some cs → IsPoints (record { elem = t; extents = es; class = c }) cs (origin_of c) (deltas_of c)
points_by t es (plain vs) cs l g e = absurd (cc e)
points_by t es (constant n v) cs l g e = absurd (cc e)
points_by t es (regular n o d) cs l g e = absurd (cc e)
points_by t es (grid_connections ds) cs l g e = absurd (cc e)
points_by t es (grid_positions ks o ds) cs l g e =
    let same : ks ≡ cs = cc in
    let both = and_parts (length o == length ks) (length ds == length ks * length ks) l in
    let own : length o ≡ length ks = eqb-true (length o) (length ks) both.0 in
    let all : length ds ≡ length ks * length ks = eqb-true (length ds) (length ks * length ks) both.1 in
    let wide : product es ≡ length ks * 1 = ap product g.1 in
    record {
      class = ap (λ k. grid_positions k o ds) same;
      elem = g.0;
      extents = g.1 ∙ ap (λ k. length k ∷ []) same;
      origin = own ∙ ap length same;
      deltas = all ∙ ap (λ k. length k * length k) same;
      items = ap product same;
      width = wide ∙ omega (arith, ap length same);
    }

pub points_are : (a : ArrayData) (cs : List ℕ) → IsLawfulArray a → point_counts a.class ≡ Some cs → IsPoints a cs (origin_of a.class) (deltas_of a.class)
points_are a cs l e = points_by a.elem a.extents a.class cs l.lengths l.of_grid e

map_same : (f g : ℕ → ℤ) (xs : List ℕ) → ((k : ℕ) → f k ≡ g k) → map f xs ≡ map g xs
map_same f g [] h = refl
map_same f g (x ∷ xs) h = rw (h x, map_same f g xs h) refl

-- the origin of the slab is the first of its points
pub first_item : (a : ArrayData) (cs : List ℕ) (o ds : List ℤ) (c : Cut) (n : ℕ) → IsPoints a cs o ds → IsCutOf cs c → n ≡ c.first * product (drop (suc c.dimension) cs) → item a n ≡ moved o ds c
first_item a cs o ds c n is cut e =
    let len : width a ≡ length o = is.width ∙ sym is.origin in
    ap (item a) e ∙ ap (λ k. map (value a (c.first * product (drop (suc c.dimension) cs))) (range_with_len 0 k)) len
    ∙ map_same _ (λ k. number o k +ℤ pos c.first *ℤ number ds (c.dimension * length o + k)) (range_with_len 0 (length o)) (λ k. first_value a cs o ds c k is cut)

pub first_within : (cs : List ℕ) (c : Cut) → IsCutOf cs c → c.first * product (drop (suc c.dimension) cs) < product cs
first_within cs c cut = first_lt cs c.dimension c.first cut.counts.some cut.dimension (let end = cut.end in omega (arith, end))

-- ---- the counts of the slab

pub all_set : (cs : List ℕ) (d n : ℕ) → 0 < n → All (λ c. 0 < c) cs → All (λ c. 0 < c) (set cs d n)
all_set [] d n s h = h
all_set (c ∷ cs) zero n s h = All-cons (λ x. 0 < x) n cs s (All-tail (λ x. 0 < x) c cs h)
all_set (c ∷ cs) (suc d) n s h = All-cons (λ x. 0 < x) c (set cs d n) (All-head (λ x. 0 < x) c cs h) (all_set cs d n s (All-tail (λ x. 0 < x) c cs h))

product_set-le : (cs : List ℕ) (d n : ℕ) → n ≤ get_or cs d 0 → product (set cs d n) ≤ product cs
product_set-le [] d n h = omega arith
product_set-le (c ∷ cs) zero n h = mul-le-mul_right (product cs) h
product_set-le (c ∷ cs) (suc d) n h = mul-le-mul_left c (product_set-le cs d n h)

pub list_all_some : (cs : List ℕ) → All (λ c. 0 < c) cs → list_all (λ c. nat_le 1 c) cs ≡ true
list_all_some [] h = refl
list_all_some (c ∷ cs) h = both_true (le-leb 1 c (All-head (λ x. 0 < x) c cs h)) (list_all_some cs (All-tail (λ x. 0 < x) c cs h))

shift_point : (cs : List ℕ) (d t q : ℕ) (is : List ℕ) → q + t < get_or cs d 0 → IsPoint (set cs d (t + 1)) is → IsPoint cs (shift d q is)
shift_point [] d t q is h p = absurd (omega arith)
shift_point (c ∷ cs) zero t q [] h p = p
shift_point (c ∷ cs) zero t q (i ∷ is) h p = (let low = p.0 in omega (arith, low), p.1)
shift_point (c ∷ cs) (suc d) t q [] h p = p
shift_point (c ∷ cs) (suc d) t q (i ∷ is) h p = (p.0, shift_point cs d t q is h p.1)

IsPoint-length : (cs is : List ℕ) → IsPoint cs is → length is ≡ length cs
IsPoint-length [] [] h = refl
IsPoint-length [] (i ∷ is) h = absurd h
IsPoint-length (c ∷ cs) [] h = absurd h
IsPoint-length (c ∷ cs) (i ∷ is) h = ap suc (IsPoint-length cs is h.1)

-- ---- the points of the slab can be made

module _ (a : ArrayData) (cs : List ℕ) (o ds : List ℤ) (c : Cut) (l : IsLawfulArray a) (is : IsPoints a cs o ds) (cut : IsCutOf cs c) where
  abbrev own : List ℕ
  own = cut_counts cs c

  own_some : All (λ x. 0 < x) own
  own_some = all_set cs c.dimension (c.thickness + 1) (omega arith) cut.counts.some

  own_length : length own ≡ length cs
  own_length = length-set cs c.dimension (c.thickness + 1)

  fit : c.thickness + 1 ≤ get_or cs c.dimension 0
  fit = let end = cut.end in omega (arith, end)

  -- the value of each point of the slab is that of a point of the grid
  value_at : (i p : ℕ) → i < product own → p < length own * 1 → in_range Int (number (moved o ds c) p +ℤ offset (length own) (indices_of own i) ds p) ≡ true
  value_at i p h k =
      let n = length cs in
      let d = c.dimension in
      let js = indices_of own i in
      let point : IsPoint own js = IsPoint-indices_of own i own_some in
      let end : c.first + c.thickness < get_or cs d 0 = cut.end in
      let there : IsPoint cs (shift d c.first js) = shift_point cs d c.thickness c.first js end point in
      let j = point_number cs (shift d c.first js) in
      let below : j < items a = (let lt = point_number-lt cs (shift d c.first js) there in rw is.items lt) in
      let narrow : p < width a = (let len = own_length in rw is.width (omega (arith, len))) in
      let typed : in_range a.elem (value a j p) ≡ true = value_in_type a j p l below narrow in
      let typed_int : in_range Int (value a j p) ≡ true = subst (λ t. in_range t (value a j p) ≡ true) is.elem typed in
      let of_class : value a j p ≡ number o p +ℤ offset n (indices_of cs j) ds p = ap (λ k. value_of (width a) k j p) is.class in
      let indices : indices_of cs j ≡ shift d c.first js = indices_of-point_number cs (shift d c.first js) there in
      let long : d < length js = (let len = IsPoint-length own js point in let own_len = own_length in let dim = cut.dimension in omega (arith, len, own_len, dim)) in
      let by = offset_shift n d c.first js ds p long in
      let origin : number (moved o ds c) p ≡ number o p +ℤ pos c.first *ℤ number ds (d * length o + p) =
      get_or-map-range_with_len (λ k. number o k +ℤ pos c.first *ℤ number ds (d * length o + k)) 0 (length o) p p (pos 0) (let len = own_length in let or = is.origin in omega (arith, len, or)) (omega arith) in
      let same_origin : number ds (d * length o + p) ≡ number ds (d * n + p) = ap (λ k. number ds (d * k + p)) is.origin in
      let same : number (moved o ds c) p +ℤ offset (length own) js ds p ≡ value a j p =
      (let len = own_length in rw (origin, len, of_class, indices, by, same_origin) (omega (arith, ints))) in
      rw same typed_int

  pub positions_refusal : refusal (record { elem = Int; extents = length own ∷ []; class = grid_positions own (moved o ds c) ds }) ≡ None
  positions_refusal =
      let len = own_length in
      let shape_of : is_shape (length own ∷ []) ≡ true =
      (let old : is_shape a.extents ≡ true = (and_parts (is_shape a.extents) _ l.shape).0 in let new : is_shape (length cs ∷ []) ≡ true = subst (λ es. is_shape es ≡ true) is.extents old in subst (λ k. is_shape (k ∷ []) ≡ true) (sym len) new) in
      let some : nat_le 1 (length own) ≡ true = le-leb 1 (length own) (let dim = cut.dimension in omega (arith, len, dim)) in
      let few : nat_le (length own) 3 ≡ true = le-leb (length own) 3 (let dim = cut.counts.dimensions in omega (arith, len, dim)) in
      let all = list_all_some own own_some in
      let shape : (is_shape (length own ∷ []) && (nat_le 1 (length own) && nat_le (length own) 3 && list_all (λ k. nat_le 1 k) own)) ≡ true = both_true shape_of (both_true (both_true some few) all) in
      let fewer : product own ≤ product cs = product_set-le cs c.dimension (c.thickness + 1) fit in
      let rows : product own * (length own * 1) ≤ 16777216 * (length own * 1) = mul-le-mul_right (length own * 1) (let most = cut.counts.few in let small : product own ≤ 16777216 = omega (arith, fewer, most) in small) in
      let values : product own * (length own * 1) ≤ 134217728 =
      (let most = cut.counts.few in let dim = cut.counts.dimensions in let small : product own ≤ 16777216 = omega (arith, fewer, most) in
      let thin : length own * 1 ≤ 3 = omega (arith, len, dim) in
      let wide = mul-le-mul_left (product own) thin in omega (arith, wide, small)) in
      let room : (nat_le (product own * (length own * 1)) (16777216 * (length own * 1)) && nat_le (product own * (length own * 1)) 134217728) ≡ true =
      both_true (le-leb _ _ rows) (le-leb _ _ values) in
      let origin : length (moved o ds c) ≡ length own = length-map-range_with_len _ 0 (length o) ∙ is.origin ∙ sym len in
      let deltas : length ds ≡ length own * length own = rw len is.deltas in
      let lengths : (length (moved o ds c) == length own && length ds == length own * length own) ≡ true = both_true (eqb-of (length (moved o ds c)) (length own) origin) (eqb-of (length ds) (length own * length own) deltas) in
      let types = values-of (in_range Int) (λ i p. number (moved o ds c) p +ℤ offset (length own) (indices_of own i) ds p) (product own) (length own * 1) (λ i p h k. value_at i p h k) in
      rw (shape, room, lengths, types) refl
    where
      eqb-of : (m n : ℕ) → m ≡ n → (m == n) ≡ true
      eqb-of m n e = grind (arith, nat_tests)

  pub positions_are : record { elem = Int; extents = length own ∷ []; class = grid_positions own (moved o ds c) ds } ≡ cut_positions c a
  positions_are =
      let class_is : cut_class c a.class ≡ grid_positions own (moved o ds c) ds = ap (cut_class c) is.class in
      λ i. record { elem = sym is.elem i; extents = (ap (λ k. k ∷ []) own_length ∙ sym is.extents) i; class = sym class_is i }

-- ---- as the code makes it

abbrev pub positions_array : List ℕ → List ℤ → List ℤ → ArrayData
positions_array cs o ds = record { elem = Int; extents = length cs ∷ []; class = grid_positions cs o ds }

pub same_positions : (cs ks : List ℕ) (o p ds es : List ℤ) → cs ≡ ks → o ≡ p → ds ≡ es → positions_array cs o ds ≡ positions_array ks p es
same_positions cs ks o p ds es a b c = λ i. positions_array (a i) (b i) (c i)
