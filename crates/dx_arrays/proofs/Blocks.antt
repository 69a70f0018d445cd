-- The values of items one after the other, and how many there can be.
use Rattle.std.proofs.Common.{◌≡◌, ℕ, zero, suc, ◌+◌, ◌-◌, ◌*◌, ◌/◌, ◌%◌, ◌<◌, ◌≤◌, ℤ, pos, ◌+ℤ◌, List, [], ◌∷◌, ◌++◌, length, get_or, map, drop, take, true, refl, sym, ap, ◌∙◌, arith, append_assoc, append-nil, length-append, add-one, add-mul, inl, inr}
use Rattle.std.specs.Prelude.{nat_le, Some}
use Rattle.dx_arrays.specs.Classes.{plain_of}
use Rattle.std.specs.List.{range_with_len, flat_map}
use Rattle.std.proofs.lemmas.Int.{ints}
use Rattle.std.proofs.lemmas.Bool.{and_parts, cases_lt}
use Rattle.std.proofs.lemmas.Bool.Decides.{nat_tests}
use Rattle.std.proofs.lemmas.List.{length-drop, get_or-drop, get_or-append_right, get_or-append-add, get_or-take, take-append-le, take_all, length-take-le}
use Rattle.std.proofs.Math.Seq.{take-suc}
use Rattle.std.proofs.Math.ListN.{get_or-append}
use Rattle.std.proofs.lemmas.List.Concat.{flat_map-append}
use Rattle.std.proofs.lemmas.List.FromFn.{length-map-range_with_len, get_or-map-range_with_len, fill_by_all}
use Rattle.std.proofs.lemmas.Nat.{div-add-mod', le-div}
use Rattle.std.proofs.Math.Nat.{mod-lt, div-mul-le_self, mul-le-mul_left, mul-le-mul_right, div-lt_iff_lt-mul, mul-add-div_right, mul-add-mod_self_right, div-eq_of_lt, mod-eq_of_lt, suc-mul}
use Rattle.dx_base.specs.declared.elem.ElemType.{ElemType}
use Rattle.dx_base.specs.declared.elem.ElemType.TheVariants.{Byte, UByte, Short, UShort, Int, UInt}
use Rattle.dx_base.specs.Elem.{in_range}
use Rattle.dx_base.specs.Array.{ArrayData, Class, plain, constant, regular, grid_positions, grid_connections, items, items_of, width, number, item, value, cells}
use Rattle.dx_base.specs.ArrayLimits.{IsLawfulArray, value_count_of, is_shape}
use Rattle.dx_arrays.specs.Block.{values_from, line_len, IsOnLine, AreOnLine, IsSmall}
use Rattle.dx_arrays.proofs.Fits.{value_in_type, width-pos}
use Rattle.dx_arrays.proofs.Lines.{last_pos, value_third}

-- ---- how many values

roomy_by : (w : ℕ) (c : Class) → value_count_of (items_of w c) w c ≤ 134217728 → items_of w c * w ≤ 134217728
roomy_by w (plain vs) h = let most = div-mul-le_self (length vs) w in omega (arith, most)
roomy_by w (constant n v) h = h
roomy_by w (regular n o d) h = h
roomy_by w (grid_positions cs o ds) h = h
roomy_by w (grid_connections cs) h = h

-- the items have no more values than an array may have
pub roomy : (a : ArrayData) → IsLawfulArray a → items a * width a ≤ 134217728
roomy a l =
    let n = value_count_of (items a) (width a) a.class in
    let room = (and_parts (nat_le n (16777216 * width a)) (nat_le n 134217728) l.room).1 in
    roomy_by (width a) a.class (grind (arith, nat_tests, room))

-- each item has a value
pub wide : (a : ArrayData) → IsLawfulArray a → 0 < width a
wide a l = width-pos a.extents (and_parts (is_shape a.extents) _ l.shape).0

-- so there are no more values up to an item than that
pub few_values : (a : ArrayData) (n : ℕ) → IsLawfulArray a → n ≤ items a → n * width a ≤ 134217728
few_values a n l h =
    let all = roomy a l in
    let row = mul-le-mul_right (width a) h in
    omega (arith, all, row)

pub few_items : (a : ArrayData) → IsLawfulArray a → items a ≤ 134217728
few_items a l =
    let all = roomy a l in
    let row = mul-le-mul_left (items a) (wide a l) in
    omega (arith, all, row)

line_some_by : (w : ℕ) (c : Class) → 0 < items_of w c → 0 < line_len c
line_some_by w (plain vs) h = omega arith
line_some_by w (constant n v) h = h
line_some_by w (regular n o d) h = h
line_some_by w (grid_positions cs o ds) h = last_pos cs h
line_some_by w (grid_connections cs) h = last_pos (cells cs) h

-- a line has an item
pub line_some : (a : ArrayData) → 0 < items a → 0 < line_len a.class
line_some a h = line_some_by (width a) a.class h

pub end_behind : (i l : ℕ) → 0 < l → i < (i / l + 1) * l
end_behind i l h =
    let whole : i / l * l + i % l ≡ i = div-add-mod' i l in
    let digit : i % l < l = mod-lt i h in
    let one : i / l + 1 ≡ suc (i / l) = omega arith in
    let row : (i / l + 1) * l ≡ i / l * l + l = ap (λ x. x * l) one ∙ suc-mul (i / l) l in
    omega (arith, whole, digit, row)

pub same_line : (i j l : ℕ) → 0 < l → i ≤ j → j < (i / l + 1) * l → i / l ≡ j / l
same_line i j l h le lt =
    let below : j / l < i / l + 1 = (div-lt_iff_lt-mul {x = j} {y = i / l + 1} h).1 lt in
    let above : i / l ≤ j / l = le-div (i / l) j l h (let low = div-mul-le_self i l in omega (arith, low)) in
    omega (arith, below, above)

-- ---- the values of items one after the other

range_more : (a m n : ℕ) → range_with_len a (m + n) ≡ range_with_len a m ++ range_with_len (a + m) n
range_more a zero n = let e : zero + n ≡ n = omega arith in let f : a + zero ≡ a = omega arith in rw (e, f) refl
range_more a (suc m) n =
    let e : suc m + n ≡ suc (m + n) = omega arith in
    let f : a + suc m ≡ a + 1 + m = omega arith in
    rw (e, f) (ap (λ r. a ∷ r) (range_more (a + 1) m n))

pub values_append : (a : ArrayData) (i m n : ℕ) → values_from a i (m + n) ≡ values_from a i m ++ values_from a (i + m) n
unfolding values_from
values_append a i m n = rw (range_more i m n) (flat_map-append (item a) (range_with_len i m) (range_with_len (i + m) n))

pub values_one : (a : ArrayData) (i : ℕ) → values_from a i 1 ≡ item a i
unfolding values_from
values_one a i = append-nil (item a i)

pub length_item : (a : ArrayData) (i : ℕ) → length (item a i) ≡ width a
length_item a i = length-map-range_with_len (value a i) 0 (width a)

pub length_values : (a : ArrayData) (i n : ℕ) → length (values_from a i n) ≡ n * width a
unfolding values_from
length_values a i zero = let none : 0 * width a ≡ 0 = omega arith in sym none
length_values a i (suc n) =
    let below : length (flat_map (item a) (range_with_len (i + 1) n)) ≡ n * width a = length_values a (i + 1) n in
    let here = length_item a i in
    let row : suc n * width a ≡ n * width a + width a = suc-mul n (width a) in
    simp length-append (omega (arith, below, here, row))

-- the value that stands at place k of them
abbrev pub at_place : ArrayData → ℕ → ℕ → ℤ
at_place a i k = value a (i + k / width a) (k % width a)

past_first : (a : ArrayData) (i k : ℕ) → 0 < width a → width a ≤ k → at_place a (i + 1) (k - width a) ≡ at_place a i k
past_first a i k some h =
    let w = width a in
    let split : k ≡ 1 * w + (k - w) = omega arith in
    let row : (1 * w + (k - w)) / w ≡ 1 + (k - w) / w = mul-add-div_right some 1 (k - w) in
    let digit : (1 * w + (k - w)) % w ≡ (k - w) % w = mul-add-mod_self_right 1 w (k - w) in
    let rows : k / w ≡ 1 + (k - w) / w = ap (λ x. x / w) split ∙ row in
    let digits : k % w ≡ (k - w) % w = ap (λ x. x % w) split ∙ digit in
    let next : i + 1 + (k - w) / w ≡ i + (1 + (k - w) / w) = omega arith in
    rw (rows, digits, next) refl

pub values_at : (a : ArrayData) (i n k : ℕ) (d : ℤ) → 0 < width a → k < n * width a → get_or (values_from a i n) k d ≡ at_place a i k
unfolding values_from
values_at a i zero k d some h = absurd (let none : 0 * width a ≡ 0 = omega arith in omega (arith, none))
values_at a i (suc n) k d some h =
    let w = width a in
    let rest : List ℤ = flat_map (item a) (range_with_len (i + 1) n) in
    let here : length (item a i) ≡ w = length_item a i in
    let row : suc n * w ≡ n * w + w = suc-mul n w in
    elim (cases_lt k w) [
      | inl low ↦
          let at : get_or (item a i ++ rest) k d ≡ get_or (item a i) k d = get_or-append (item a i) rest d k (omega (arith, here)) in
          let one : get_or (item a i) k d ≡ value a i k = get_or-map-range_with_len (value a i) 0 w k k d low (omega arith) in
          let first : k / w ≡ 0 = div-eq_of_lt low in
          let digit : k % w ≡ k = mod-eq_of_lt low in
          let same : i + 0 ≡ i = omega arith in
          at ∙ one ∙ rw (first, digit, same) refl
      | inr high ↦
          let at : get_or (item a i ++ rest) k d ≡ get_or rest (k - w) d = get_or-append_right (item a i) rest w k d here high in
          let below : get_or rest (k - w) d ≡ at_place a (i + 1) (k - w) = values_at a (i + 1) n (k - w) d some (omega (arith, row)) in
          at ∙ below ∙ past_first a i k some high
    ]

-- ---- the values along a line

small_in : (t : ElemType) (v : ℤ) → in_range t v ≡ true → IsSmall v
small_in Byte v h = record { low = grind (arith, ints); high = grind (arith, ints) }
small_in UByte v h = record { low = grind (arith, ints); high = grind (arith, ints) }
small_in Short v h = record { low = grind (arith, ints); high = grind (arith, ints) }
small_in UShort v h = record { low = grind (arith, ints); high = grind (arith, ints) }
small_in Int v h = record { low = grind (arith, ints); high = grind (arith, ints) }
small_in UInt v h = record { low = grind (arith, ints); high = grind (arith, ints) }

row_of : (k n w : ℕ) → 0 < w → k < n * w → k / w < n
row_of k n w some h = (div-lt_iff_lt-mul {x = k} {y = n} some).1 h

pub small_at : (a : ArrayData) (i n k : ℕ) → IsLawfulArray a → i + n ≤ items a → k < n * width a → IsSmall (at_place a i k)
small_at a i n k l le h =
    let some = wide a l in
    let row = row_of k n (width a) some h in
    small_in a.elem (at_place a i k) (value_in_type a (i + k / width a) (k % width a) l (omega (arith, row)) (mod-lt k some))

-- each value of a line is told by those that stand one item and two items before it
third_at_by : (a : ArrayData) (i n end j : ℕ) → IsLawfulArray a → AreOnLine a i end → i + n ≡ end → j + 2 * width a < n * width a →
    at_place a i (j + 2 * width a) +ℤ at_place a i j ≡ at_place a i (j + width a) +ℤ at_place a i (j + width a)
third_at_by a i n end j l line whole h =
    let w = width a in
    let some : 0 < w = wide a l in
    let q = i + j / w in
    let p = j % w in
    let one_row : (1 * w + j) / w ≡ 1 + j / w = mul-add-div_right some 1 j in
    let two_row : (2 * w + j) / w ≡ 2 + j / w = mul-add-div_right some 2 j in
    let one : j + w ≡ 1 * w + j = omega arith in
    let two : j + 2 * w ≡ 2 * w + j = omega arith in
    let last : (j + 2 * w) / w < n = row_of (j + 2 * w) n w some h in
    let rows : (j + 2 * w) / w ≡ 2 + j / w = ap (λ x. x / w) two ∙ two_row in
    let second : at_place a i (j + w) ≡ value a (q + 1) p = rw (one, one_row, mul-add-mod_self_right 1 w j) (ap (λ x. value a x p) (omega arith)) in
    let third : at_place a i (j + 2 * w) ≡ value a (q + 1 + 1) p = rw (two, two_row, mul-add-mod_self_right 2 w j) (ap (λ x. value a x p) (omega arith)) in
    let here : IsOnLine a q (q + 1) = sym (line q (omega arith) (omega (arith, last, rows))) ∙ line (q + 1) (omega arith) (omega (arith, last, rows)) in
    let there : IsOnLine a (q + 1) (q + 1 + 1) = sym (line (q + 1) (omega arith) (omega (arith, last, rows))) ∙ line (q + 1 + 1) (omega arith) (omega (arith, last, rows)) in
    rw (second, third) (value_third a q p l (mod-lt j some) here there)

pub third_at : (a : ArrayData) (i n end j m k : ℕ) → IsLawfulArray a → AreOnLine a i end → i + n ≡ end → m ≡ j + width a → k ≡ j + 2 * width a → k < n * width a →
    at_place a i k +ℤ at_place a i j ≡ at_place a i m +ℤ at_place a i m
third_at a i n end j m k l line whole e f h = rw (e, f) (third_at_by a i n end j l line whole (rw f at h))

-- ---- how the list grows

pub place_read : (a : ArrayData) (i n k j at : ℕ) (before out : List ℤ) (d : ℤ) → 0 < width a → out ≡ before ++ take k (values_from a i n) → at ≡ length before + j → j < k → k ≤ n * width a →
    get_or out at d ≡ at_place a i j
place_read a i n k j at before out d some e f h le =
    rw (f, e) (get_or-append-add before (take k (values_from a i n)) j d ∙ get_or-take k (values_from a i n) j d h ∙ values_at a i n j d some (omega arith))

-- the values one item and two items before the one that comes next
pub record LastTwo (a : ArrayData) (i n k w : ℕ) (out : List ℤ) : Type 0 where
  pub len : 2 * w ≤ length out
  pub one : get_or out (length out - w) (pos 0) ≡ at_place a i (k - w)
  pub two : get_or out (length out - 2 * w) (pos 0) ≡ at_place a i (k - 2 * w)
  pub small_one : IsSmall (at_place a i (k - w))
  pub small_two : IsSmall (at_place a i (k - 2 * w))

pub last_two : (a : ArrayData) (i n k w : ℕ) (before out : List ℤ) → IsLawfulArray a → w ≡ width a → i + n ≤ items a → 2 * w ≤ k → k < n * w → out ≡ before ++ take k (values_from a i n) → LastTwo a i n k w out
last_two a i n k w before out l e le low high f =
    let some : 0 < w = rw e (wide a l) in
    let some_a : 0 < width a = wide a l in
    let high_a : k < n * width a = rw e at high in
    let all = length_values a i n in
    let taken : length (take k (values_from a i n)) ≡ k = length-take-le k (values_from a i n) (omega (arith, all, high_a)) in
    let whole : length out ≡ length before + k = ap length f ∙ length-append before (take k (values_from a i n)) ∙ ap (λ x. length before + x) taken in
    record {
      len = omega (arith, whole);
      one = place_read a i n k (k - w) (length out - w) before out (pos 0) some_a f (omega (arith, whole)) (omega arith) (omega (arith, high_a));
      two = place_read a i n k (k - 2 * w) (length out - 2 * w) before out (pos 0) some_a f (omega (arith, whole)) (omega arith) (omega (arith, high_a));
      small_one = small_at a i n (k - w) l le (omega (arith, high_a));
      small_two = small_at a i n (k - 2 * w) l le (omega (arith, high_a));
    }

pub take_next : (a : ArrayData) (i n k : ℕ) → 0 < width a → k < n * width a → take (k + 1) (values_from a i n) ≡ take k (values_from a i n) ++ at_place a i k ∷ []
take_next a i n k some h =
    let all = length_values a i n in
    let more : take (suc k) (values_from a i n) ≡ take k (values_from a i n) ++ get_or (values_from a i n) k (pos 0) ∷ [] = take-suc (values_from a i n) k (pos 0) (omega (arith, all)) in
    rw (add-one, more, values_at a i n k (pos 0) some h) refl

pub take_begin : (a : ArrayData) (i n : ℕ) → 2 ≤ n → take (2 * width a) (values_from a i n) ≡ values_from a i 2
take_begin a i n h =
    let split : n ≡ 2 + (n - 2) = omega arith in
    let two = length_values a i 2 in
    let parts : values_from a i n ≡ values_from a i 2 ++ values_from a (i + 2) (n - 2) = ap (values_from a i) split ∙ values_append a i 2 (n - 2) in
    rw parts (take-append-le (2 * width a) (values_from a i 2) (values_from a (i + 2) (n - 2)) (omega (arith, two)) ∙ take_all (2 * width a) (values_from a i 2) (omega (arith, two)))

pub take_end : (a : ArrayData) (i n k : ℕ) → n * width a ≤ k → take k (values_from a i n) ≡ values_from a i n
take_end a i n k h = let all = length_values a i n in take_all k (values_from a i n) (omega (arith, all))

-- the values from one item on, in two parts
pub values_split : (a : ArrayData) (i j e : ℕ) → i ≤ j → j ≤ e → values_from a i (e - i) ≡ values_from a i (j - i) ++ values_from a j (e - j)
values_split a i j e h k =
    let split : e - i ≡ (j - i) + (e - j) = omega arith in
    let next : i + (j - i) ≡ j = omega arith in
    rw split (values_append a i (j - i) (e - j) ∙ ap (λ x. values_from a i (j - i) ++ values_from a x (e - j)) next)

pub values_none : (a : ArrayData) (i : ℕ) → values_from a i (i - i) ≡ []
unfolding values_from
values_none a i = let none : i - i ≡ 0 = omega arith in rw none refl

pub values_two : (a : ArrayData) (i : ℕ) → values_from a i 2 ≡ item a i ++ item a (i + 1)
values_two a i = values_append a i 1 1 ∙ rw (values_one a i, values_one a (i + 1)) refl

-- the values of a plain array stand as they are given
plain_at : (a : ArrayData) (vs : List ℤ) (i k : ℕ) → a.class ≡ plain vs → at_place a i k ≡ number vs (i * width a + k)
plain_at a vs i k e =
    let w = width a in
    let whole : k / w * w + k % w ≡ k = div-add-mod' k w in
    let place : (i + k / w) * w + k % w ≡ i * w + k = rw (add-mul i (k / w) w) (omega (arith, whole)) in
    rw e (ap (number vs) place)

plain_is : (c : Class) (vs : List ℤ) → plain_of c ≡ Some vs → c ≡ plain vs
plain_is (plain ws) vs h = cc h
plain_is (constant n v) vs h = absurd (cc h)
plain_is (regular n o d) vs h = absurd (cc h)
plain_is (grid_positions cs o ds) vs h = absurd (cc h)
plain_is (grid_connections cs) vs h = absurd (cc h)

plain_run_by : (a : ArrayData) (vs : List ℤ) (i n : ℕ) → IsLawfulArray a → a.class ≡ plain vs → i + n ≤ items a → take (n * width a) (drop (i * width a) vs) ≡ values_from a i n
plain_run_by a vs i n l e h =
    let w = width a in
    let some = wide a l in
    let few : i + n ≤ items_of w (plain vs) = rw e at h in
    let row : (i + n) * w ≤ length vs / w * w = mul-le-mul_right w few in
    let whole : length vs / w * w ≤ length vs = div-mul-le_self (length vs) w in
    let parts : (i + n) * w ≡ i * w + n * w = add-mul i n w in
    let part : List ℤ = take (n * w) (drop (i * w) vs) in
    let len : length part ≡ n * w = length-take-le (n * w) (drop (i * w) vs) (simp length-drop (omega (arith, row, whole, parts))) in
    let left : part ≡ map (at_place a i) (range_with_len 0 (n * w)) = fill_by_all (at_place a i) part (n * w) (pos 0) len
    (λ k h. get_or-take (n * w) (drop (i * w) vs) k (pos 0) h ∙ get_or-drop (i * w) vs k (pos 0) ∙ sym (plain_at a vs i k e)) in
    let right : values_from a i n ≡ map (at_place a i) (range_with_len 0 (n * w)) = fill_by_all (at_place a i) (values_from a i n) (n * w) (pos 0) (length_values a i n) (λ k h. values_at a i n k (pos 0) some h) in
    left ∙ sym right

pub plain_run : (a : ArrayData) (vs : List ℤ) (from to w : ℕ) → IsLawfulArray a → plain_of a.class ≡ Some vs → w ≡ width a → from ≤ to → to ≤ items a → take (to * w - from * w) (drop (from * w) vs) ≡ values_from a from (to - from)
plain_run a vs from to w l h e order within =
    let parts : from + (to - from) ≡ to = omega arith in
    let rows : to * w ≡ from * w + (to - from) * w = ap (λ x. x * w) (sym parts) ∙ add-mul from (to - from) w in
    let gap : to * w - from * w ≡ (to - from) * w = omega (arith, rows) in
    rw (gap, e) (plain_run_by a vs from (to - from) l (plain_is a.class vs h) (omega arith))

-- the first two items behind the list
pub begun : (a : ArrayData) (i : ℕ) (old one two : List ℤ) → one ≡ old ++ item a i → two ≡ one ++ item a (i + 1) → two ≡ old ++ values_from a i 2
begun a i old one two e f = f ∙ ap (λ xs. xs ++ item a (i + 1)) e ∙ append_assoc old (item a i) (item a (i + 1)) ∙ ap (λ xs. old ++ xs) (sym (values_two a i))
