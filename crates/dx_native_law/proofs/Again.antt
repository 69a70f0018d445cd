-- Each array that can be made, with origin and deltas in the int range, stands again where it was written.
use Rattle.std.proofs.Common.{◌≡◌, ℕ, zero, suc, ◌+◌, ◌*◌, ◌/◌, ◌%◌, ◌-◌, ◌<◌, ◌≤◌, ◌^◌, ◌≤ℤ◌, Bool, true, false, cond, List, [], ◌∷◌, ◌++◌, length, length-append, map, take, drop, length-take, length-drop, append_assoc, append-nil, Option, Some, None, ℤ, pos, negsuc, refl, sym, ap, ◌∙◌, subst, arith}
use Rattle.std.specs.Prelude.{codes, nat_le, int_le, ◌&&◌, ◌==◌, not}
use Rattle.std.specs.List.{All, list_all}
use Rattle.std.specs.Cmp.Derive.{both_true}
use Rattle.std.proofs.lemmas.Bool.{and_parts}
use Rattle.std.proofs.lemmas.Bool.Decides.{nat_tests}
use Rattle.std.proofs.lemmas.Int.{ints}
use Rattle.std.proofs.lemmas.List.{take-append-drop}
use Rattle.std.proofs.lemmas.List.Folds.{list_all-append}
use Rattle.std.proofs.lemmas.List.Elements.{All-head, All-tail}
use Rattle.std.proofs.lemmas.Nat.{div-add-mod'}
use Rattle.dx_base.specs.declared.elem.ElemType.{ElemType}
use Rattle.dx_base.specs.declared.elem.ElemType.TheVariants.{Byte, UByte, Short, UShort, Int, UInt}
use Rattle.dx_base.specs.Array.{ArrayData, Class, plain, constant, regular, grid_positions, grid_connections, product, items, width}
use Rattle.dx_base.specs.Object.{PartList, no_parts, part}
use Rattle.dx_base.specs.declared.code.NativeKind.TheVariants as fault
use Rattle.dx_native_lex.specs.Token.{error}
use Rattle.dx_base.specs.ArrayLimits.{IsLawfulArray, has_shape, has_room, has_lengths, is_in_type, is_shape, is_grid, max_items, max_values}
use Rattle.dx_base.specs.Elem.{in_range, lowest, highest}
use Rattle.dx_arrays.specs.Makes.{refusal}
use Rattle.dx_arrays.specs.declared.array.ArrayError.{ArrayError}
use Rattle.dx_arrays.specs.declared.array.ArrayError.TheVariants.{BadShape, TooManyItems, ItemCount, RangeOfType}
use Rattle.dx_arrays.proofs.InType.{plain_in_type, constant_in_type}
use Rattle.std.proofs.Math.Nat.{mul-pos, le_of_mul-le-mul_right}
use Rattle.dx_places.specs.Grammar.{At}
use Rattle.dx_native_grammar.specs.Grammar.{plain_array, constant_array, regular_array, grid_points, grid_cells}
use Rattle.dx_native_grammar.specs.Words.{array_fault, room_fault, refused_at, points_of, cells_of, int_low, int_high, has_items_room}
use Rattle.dx_native_text.specs.Lines.{Word, bare, in_quotes}
use Rattle.dx_native_text.specs.Arrays.{type_words, shape_words, head_words, data_words, class_words, class_lines, rows, item_line, origin_line, delta_line}
use Rattle.dx_native_text.specs.Text.{attribute_lines}
use Rattle.dx_native_law.proofs.LaidLines.{key, natural, number}
use Rattle.dx_native_law.proofs.Ints.{HasInts}
use Rattle.dx_native_law.proofs.Runs.{Runs}
use Rattle.dx_native_law.proofs.Tokens.{words_of}
use Rattle.dx_native_law.proofs.Numbers.{IsSmall}
use Rattle.dx_native_law.proofs.Stands.{IsBetween, IsIn, IsNatural, AreIn, AreNatural}
use Rattle.dx_native_law.proofs.Arrays.{IsShape, IsHead, plain_stands, constant_stands, regular_stands}
use Rattle.dx_native_law.proofs.Grids.{IsGrid, AreRows, delta_words, all_of, points_stand, cells_stand, IsNoNumber, attribute_no}
use Rattle.dx_native_law.proofs.Clauses.{Content_is, array_stands, array_class, constantarray_class, regulararray_class, gridpositions_class, gridconnections_class}
use Rattle.dx_native_law.proofs.Words.{key_good, head_good, data_good, naturals_good, item_good, rows_good, origin_good, delta_good, deltas_good}
use Rattle.dx_native_law.proofs.Objects.{IsAgain}

-- ---- numbers of a type

le_of : (a b : ℤ) → int_le a b ≡ true → a ≤ℤ b
le_of a b h = grind (arith, ints)

small_of : (t : ElemType) (z : ℤ) → lowest t ≤ℤ z → z ≤ℤ highest t → IsSmall z
small_of Byte (pos n) l h = omega (arith, ints)
small_of Byte (negsuc n) l h = omega (arith, ints)
small_of UByte (pos n) l h = omega (arith, ints)
small_of UByte (negsuc n) l h = omega (arith, ints)
small_of Short (pos n) l h = omega (arith, ints)
small_of Short (negsuc n) l h = omega (arith, ints)
small_of UShort (pos n) l h = omega (arith, ints)
small_of UShort (negsuc n) l h = omega (arith, ints)
small_of Int (pos n) l h = omega (arith, ints)
small_of Int (negsuc n) l h = omega (arith, ints)
small_of UInt (pos n) l h = omega (arith, ints)
small_of UInt (negsuc n) l h = omega (arith, ints)

pub is_in : (t : ElemType) (z : ℤ) → in_range t z ≡ true → IsIn (lowest t) (highest t) z
is_in t z h =
    let p = and_parts (int_le (lowest t) z) (int_le z (highest t)) h in
    record { small = small_of t z (le_of (lowest t) z p.0) (le_of z (highest t) p.1); between = h }

are_in : (t : ElemType) (vs : List ℤ) → list_all (in_range t) vs ≡ true → AreIn (lowest t) (highest t) vs
are_in t [] h = tt
are_in t (v ∷ vs) h = let p = and_parts (in_range t v) (list_all (in_range t) vs) h in (is_in t v p.0, are_in t vs p.1)

-- ---- shapes

natural_of : (low high n : ℕ) → high < 10000000000 → low ≤ n → n ≤ high → IsNatural low high n
natural_of low high n b l h =
    let x : int_le (pos low) (pos n) ≡ true = grind (arith, ints) in
    let y : int_le (pos n) (pos high) ≡ true = grind (arith, ints) in
    record { small = omega arith; between = both_true x y }

extents_of : (es : List ℕ) → list_all (λ e. nat_le 1 e && nat_le e 256) es ≡ true → AreNatural 1 256 es
extents_of [] h = tt
extents_of (e ∷ es) h =
    let p = and_parts (nat_le 1 e && nat_le e 256) (list_all (λ e. nat_le 1 e && nat_le e 256) es) h in
    let q = and_parts (nat_le 1 e) (nat_le e 256) p.0 in
    let low : 1 ≤ e = let a = q.0 in grind (arith, nat_tests) in
    let high : e ≤ 256 = let a = q.1 in grind (arith, nat_tests) in
    (natural_of 1 256 e (omega arith) low high, extents_of es p.1)

shape_of : (es : List ℕ) → is_shape es ≡ true → IsShape es
shape_of es h =
    let p = and_parts (nat_le (length es) 2) (list_all (λ e. nat_le 1 e && nat_le e 256) es) h in
    let few : length es ≤ 2 = let a = p.0 in grind (arith, nat_tests) in
    record { rank = natural_of 0 2 (length es) (omega arith) (omega arith) few; extents = extents_of es p.1 }

some_width : (es : List ℕ) → list_all (λ e. nat_le 1 e && nat_le e 256) es ≡ true → 0 < product es
some_width [] h = omega arith
some_width (e ∷ es) h =
    let p = and_parts (nat_le 1 e && nat_le e 256) (list_all (λ e. nat_le 1 e && nat_le e 256) es) h in
    let q = and_parts (nat_le 1 e) (nat_le e 256) p.0 in
    let low : 0 < e = let a = q.0 in grind (arith, nat_tests) in
    mul-pos low (some_width es p.1)

-- so many items of some width are not too many
room_of : (w n : ℕ) → 0 < w → n * w ≤ max_items * w → n * w ≤ max_values → (n < 10000000000) × (has_items_room w n ≡ true)
room_of w n some few less =
    let items : n ≤ 16777216 = le_of_mul-le-mul_right few some in
    let x : nat_le n max_items ≡ true = grind (arith, nat_tests) in
    let y : nat_le (n * w) max_values ≡ true = grind (arith, nat_tests) in
    (omega arith, both_true x y)

-- ---- words

head_append : (t : ElemType) (es : List ℕ) (n : ℕ) (r tail : List Word) → head_words t es n r ++ tail ≡ head_words t es n (r ++ tail)
head_append t es n r tail = ap (λ l. key (codes "type") ∷ l) (append_assoc (type_words t) (key (codes "rank") ∷ natural (length es) ∷ (shape_words es ++ key (codes "items") ∷ natural n ∷ r)) tail
    ∙ ap (λ l. type_words t ++ (key (codes "rank") ∷ natural (length es) ∷ l)) (append_assoc (shape_words es) (key (codes "items") ∷ natural n ∷ r) tail))

map_two : (xs ys : List ℤ) (tail : List Word) → map number (xs ++ ys) ++ tail ≡ map number xs ++ (map number ys ++ tail)
map_two [] ys tail = refl
map_two (x ∷ xs) ys tail = ap (λ l. number x ∷ l) (map_two xs ys tail)

row_words : (w n : ℕ) (vs : List ℤ) (tail : List Word) → length vs ≡ n * w → words_of (map item_line (rows w n vs)) ++ tail ≡ map number vs ++ tail
row_words w zero [] tail h = refl
row_words w zero (v ∷ vs) tail h = absurd (omega arith)
row_words w (suc n) vs tail h =
    let m : suc n * w ≡ w + n * w = grind arith in
    let front = take w vs in
    let back = drop w vs in
    let many : length back ≡ n * w = omega (arith, h, m, length-drop w vs) in
    append_assoc (map number front) (words_of (map item_line (rows w n back))) tail
    ∙ ap (λ l. map number front ++ l) (row_words w n back tail many)
    ∙ sym (map_two front back tail)
    ∙ ap (λ (l : List ℤ). map number l ++ tail) (take-append-drop w vs)

-- ---- nothing is refused

refused_none : (s r l i : Bool) → s ≡ true → r ≡ true → l ≡ true → i ≡ true
    → cond {A = Option ArrayError} (not s) (Some BadShape) (cond {A = Option ArrayError} (not r) (Some TooManyItems) (cond {A = Option ArrayError} (not l) (Some ItemCount) (cond {A = Option ArrayError} i None (Some RangeOfType)))) ≡ None
refused_none true true true true a b c d = refl
refused_none true true true false a b c d = absurd cc
refused_none true true false i a b c d = absurd cc
refused_none true false l i a b c d = absurd cc
refused_none false r l i a b c d = absurd cc

fine : (a : ArrayData) → IsLawfulArray a → (o : ℕ) → array_fault o a ≡ None
unfolding array_fault
fine a h o = ap (refused_at o) (refused_none (has_shape a) (has_room a) (has_lengths a) (is_in_type a) h.shape h.room h.lengths h.in_type)

abbrev made : ElemType → List ℕ → Class → ArrayData
made t es c = record { elem = t; extents = es; class = c }

is_le : (a b : ℕ) → nat_le a b ≡ true → a ≤ b
is_le a b h = grind (arith, nat_tests)

is_same : (a b : ℕ) → (a == b) ≡ true → a ≡ b
is_same a b h = grind (arith, nat_tests)

plain_again : (t : ElemType) (es : List ℕ) (vs : List ℤ) → IsLawfulArray (made t es (plain vs)) → IsAgain (made t es (plain vs))
plain_again t es vs h =
    let a = made t es (plain vs) in
    let sh = (and_parts (is_shape es) true h.shape).0 in
    let all = (and_parts (nat_le (length es) 2) (list_all (λ e. nat_le 1 e && nat_le e 256) es) sh).1 in
    let w = product es in
    let some = some_width es all in
    let n = length vs / w in
    let whole : length vs % w ≡ 0 = is_same (length vs % w) 0 h.lengths in
    let parts : n * w + length vs % w ≡ length vs = div-add-mod' (length vs) w in
    let many : length vs ≡ n * w = omega (arith, parts, whole) in
    let room = and_parts (nat_le (length vs) (max_items * w)) (nat_le (length vs) max_values) h.room in
    let fits = room_of w n some (subst (λ (k : ℕ). k ≤ max_items * w) many (is_le (length vs) (max_items * w) room.0)) (subst (λ (k : ℕ). k ≤ max_values) many (is_le (length vs) max_values room.1)) in
    let within = are_in t vs (plain_in_type t es vs some whole ∙ h.in_type) in
    let head : IsHead es n = record { shape = shape_of es sh; small = fits.0; room = fits.1 } in
    record {
      first = codes "array";
      others = head_words t es n data_words;
      words = refl;
      good = (key_good (codes "array") refl, head_good t es n data_words head data_good);
      lines = rows_good (lowest t) (highest t) w n vs some many within;
      stand = λ xs j v ws o m e hx last isnt r.
          let tail = words_of (attribute_lines xs j) ++ v ∷ ws in
          let lines = words_of (map item_line (rows w n vs)) in
          let shown = subst (λ (l : List Word). Runs m (key (codes "array") ∷ l) e)
          (head_append t es n data_words (lines ++ tail) ∙ ap (λ (l : List Word). head_words t es n (key (codes "data") ∷ key (codes "follows") ∷ l)) (row_words w n vs tail many)) r in
          let p = plain_stands o t es n vs tail m e head many within (fine a h o) shown in
          let c = array_stands (plain_array o) a xs j v ws m p.0 e hx last p.1 p.2 in
          record { got = c.got; at = c.at; stand = array_class o c.got _ m c.at e r c.stand; behind = c.behind; same = c.same };
    }

constant_again : (t : ElemType) (es : List ℕ) (n : ℕ) (v : List ℤ) → IsLawfulArray (made t es (constant n v)) → IsAgain (made t es (constant n v))
constant_again t es n v h =
    let a = made t es (constant n v) in
    let sh = (and_parts (is_shape es) true h.shape).0 in
    let all = (and_parts (nat_le (length es) 2) (list_all (λ e. nat_le 1 e && nat_le e 256) es) sh).1 in
    let w = product es in
    let some = some_width es all in
    let many : length v ≡ w = is_same (length v) w h.lengths in
    let room = and_parts (nat_le (n * w) (max_items * w)) (nat_le (n * w) max_values) h.room in
    let fits = room_of w n some (is_le (n * w) (max_items * w) room.0) (is_le (n * w) max_values room.1) in
    let within = are_in t v (constant_in_type t es n v ∙ h.in_type) in
    let head : IsHead es n = record { shape = shape_of es sh; small = fits.0; room = fits.1 } in
    record {
      first = codes "constantarray";
      others = head_words t es n data_words;
      words = refl;
      good = (key_good (codes "constantarray") refl, head_good t es n data_words head data_good);
      lines = (item_good (lowest t) (highest t) v (omega (arith, many, some)) within, tt);
      stand = λ xs j u ws o m e hx last isnt r.
          let tail = words_of (attribute_lines xs j) ++ u ∷ ws in
          let lines = map number v ++ [] in
          let shown = subst (λ (l : List Word). Runs m (key (codes "constantarray") ∷ l) e)
          (head_append t es n data_words (lines ++ tail) ∙ ap (λ (l : List Word). head_words t es n (key (codes "data") ∷ key (codes "follows") ∷ l)) (append_assoc (map number v) [] tail)) r in
          let p = constant_stands o t es n v tail m e head many within (fine a h o) shown in
          let c = array_stands (constant_array o) a xs j u ws m p.0 e hx last p.1 p.2 in
          record { got = c.got; at = c.at; stand = constantarray_class o c.got _ m c.at e r c.stand; behind = c.behind; same = c.same };
    }

regular_again : (t : ElemType) (es : List ℕ) (n : ℕ) (o d : List ℤ) → IsLawfulArray (made t es (regular n o d)) → HasInts (regular n o d) → IsAgain (made t es (regular n o d))
regular_again t es n b d h i =
    let a = made t es (regular n b d) in
    let sh = (and_parts (is_shape es) true h.shape).0 in
    let all = (and_parts (nat_le (length es) 2) (list_all (λ e. nat_le 1 e && nat_le e 256) es) sh).1 in
    let w = product es in
    let some = some_width es all in
    let lens = and_parts (length b == w) (length d == w) h.lengths in
    let room = and_parts (nat_le (n * w) (max_items * w)) (nat_le (n * w) max_values) h.room in
    let fits = room_of w n some (is_le (n * w) (max_items * w) room.0) (is_le (n * w) max_values room.1) in
    let head : IsHead es n = record { shape = shape_of es sh; small = fits.0; room = fits.1 } in
    record {
      first = codes "regulararray";
      others = head_words t es n [];
      words = refl;
      good = (key_good (codes "regulararray") refl, head_good t es n [] head tt);
      lines = (origin_good b (are_in Int b i.0), (delta_good d (are_in Int d i.1), tt));
      stand = λ xs j u ws o m e hx last isnt r.
          let tail = words_of (attribute_lines xs j) ++ u ∷ ws in
          let lines = key (codes "origin") ∷ (map number b ++ (key (codes "delta") ∷ (map number d ++ []))) in
          let shown = subst (λ (l : List Word). Runs m (key (codes "regulararray") ∷ l) e)
          (head_append t es n [] (lines ++ tail)
          ∙ ap (λ (l : List Word). head_words t es n (key (codes "origin") ∷ l)) (append_assoc (map number b) (key (codes "delta") ∷ (map number d ++ [])) tail)
          ∙ ap (λ (l : List Word). head_words t es n (key (codes "origin") ∷ (map number b ++ key (codes "delta") ∷ l))) (append_assoc (map number d) [] tail)) r in
          let p = regular_stands o t es n b d tail m e head (is_same (length b) w lens.0) (is_same (length d) w lens.1) (are_in Int b i.0) (are_in Int d i.1) (fine a h o) shown in
          let c = array_stands (regular_array o) a xs j u ws m p.0 e hx last p.1 p.2 in
          record { got = c.got; at = c.at; stand = regulararray_class o c.got _ m c.at e r c.stand; behind = c.behind; same = c.same };
    }

-- ---- grids

counts_of_grid : (cs : List ℕ) → list_all (λ c. nat_le 1 c) cs ≡ true → All (λ c. c < 2 ^ 32) cs → AreNatural 1 4294967295 cs
counts_of_grid [] h g = tt
counts_of_grid (c ∷ cs) h g =
    let p = and_parts (nat_le 1 c) (list_all (λ c. nat_le 1 c) cs) h in
    let small = All-head (λ c. c < 2 ^ 32) c cs g in
    (natural_of 1 4294967295 c (omega arith) (is_le 1 c p.0) (omega (arith, small)), counts_of_grid cs p.1 (All-tail (λ c. c < 2 ^ 32) c cs g))

rows_are : (w n : ℕ) (ds : List ℤ) → length ds ≡ n * w → list_all (in_range Int) ds ≡ true → AreRows w (rows w n ds)
rows_are w zero ds h i = tt
rows_are w (suc n) ds h i =
    let m : suc n * w ≡ w + n * w = grind arith in
    let halves : list_all (in_range Int) (take w ds ++ drop w ds) ≡ true = ap (list_all (in_range Int)) (take-append-drop w ds) ∙ i in
    let both = and_parts (list_all (in_range Int) (take w ds)) (list_all (in_range Int) (drop w ds)) (sym (list_all-append (in_range Int) (take w ds) (drop w ds)) ∙ halves) in
    (omega (arith, h, m, length-take w ds), are_in Int (take w ds) both.0, rows_are w n (drop w ds) (omega (arith, h, m, length-drop w ds)) both.1)

rows_all : (w n : ℕ) (ds : List ℤ) → length ds ≡ n * w → all_of (rows w n ds) ≡ ds
rows_all w zero [] h = refl
rows_all w zero (d ∷ ds) h = absurd (omega arith)
rows_all w (suc n) ds h =
    let m : suc n * w ≡ w + n * w = grind arith in
    ap (λ l. take w ds ++ l) (rows_all w n (drop w ds) (omega (arith, h, m, length-drop w ds))) ∙ take-append-drop w ds

rows_many : (w n : ℕ) (ds : List ℤ) → length (rows w n ds) ≡ n
rows_many w zero ds = refl
rows_many w (suc n) ds = ap suc (rows_many w n (drop w ds))

delta_row_words : (rs : List (List ℤ)) (tail : List Word) → words_of (map delta_line rs) ++ tail ≡ delta_words rs tail
delta_row_words [] tail = refl
delta_row_words (d ∷ rs) tail =
    ap (λ l. key (codes "delta") ∷ l) (append_assoc (map number d) (words_of (map delta_line rs)) tail ∙ ap (λ l. map number d ++ l) (delta_row_words rs tail))

room_fine : (a : ArrayData) → has_room a ≡ true → (o : ℕ) → room_fault o a ≡ None
unfolding room_fault
room_fine a h o = ap (λ b. cond b None (Some (error fault.TooManyItems o))) h

points_again : (cs : List ℕ) (o ds : List ℤ) → IsLawfulArray (points_of cs o ds) → HasInts (grid_positions cs o ds) → IsAgain (points_of cs o ds)
points_again [] o ds h i = absurd (let p = (and_parts (is_shape (0 ∷ [])) false h.shape).1 in cc)
points_again (c ∷ cs) b ds h i =
    let all = c ∷ cs in
    let n = suc (length cs) in
    let a = points_of all b ds in
    let grid = (and_parts (is_shape (n ∷ [])) (is_grid all) h.shape).1 in
    let g = and_parts (nat_le 1 n && nat_le n 3) (list_all (λ c. nat_le 1 c) all) grid in
    let few = is_le n 3 (and_parts (nat_le 1 n) (nat_le n 3) g.0).1 in
    let lens = and_parts (length b == n) (length ds == n * n) h.lengths in
    let many = is_same (length ds) (n * n) lens.1 in
    let is : IsGrid c cs = record { few = omega (arith, few); counts = counts_of_grid all g.1 h.counts } in
    let rs = rows n n ds in
    let whole = rows_all n n ds many in
    record {
      first = codes "gridpositions";
      others = key (codes "counts") ∷ map natural all;
      words = refl;
      good = (key_good (codes "gridpositions") refl, (key_good (codes "counts") refl, naturals_good 1 4294967295 all is.counts));
      lines = (origin_good b (are_in Int b i.0), deltas_good n rs (rows_are n n ds many i.1));
      stand = λ xs j u ws o m e hx last isnt r.
          let tail = words_of (attribute_lines xs j) ++ u ∷ ws in
          let shown = subst (λ (l : List Word). Runs m (key (codes "gridpositions") ∷ key (codes "counts") ∷ (map natural all ++ key (codes "origin") ∷ l)) e)
          (append_assoc (map number b) (words_of (map delta_line rs)) tail ∙ ap (λ l. map number b ++ l) (delta_row_words rs tail)) r in
          let back : (x : List ℤ) → x ≡ ds → array_fault o (points_of all b x) ≡ None = λ x same. ap (λ (x : List ℤ). array_fault o (points_of all b x)) same ∙ fine a h o in
          let p = points_stand o c cs b rs tail m e is (is_same (length b) n lens.0) (are_in Int b i.0) (rows_many n n ds) (rows_are n n ds many i.1) (room_fine (points_of all [] []) h.room o) (back (all_of rs) whole) shown in
          let stands = subst (λ (x : List ℤ). (grid_points o).is m (points_of all b x) p.0) whole p.1 in
          let q = array_stands (grid_points o) a xs j u ws m p.0 e hx last stands p.2 in
          record { got = q.got; at = q.at; stand = gridpositions_class o q.got _ m q.at e r q.stand; behind = q.behind; same = q.same };
    }

-- the word behind the counts of a grid's cells is no number
front_of : (xs : PartList) (j : ℕ) (u : Word) (ws : List Word) → IsNoNumber u → (v : Word) × (vs : List Word) × (words_of (attribute_lines xs j) ++ u ∷ ws ≡ v ∷ vs) × IsNoNumber v
front_of no_parts j u ws h = (u, ws, refl, h)
front_of (part n p t xs) j u ws h = (key (codes "attribute"), _, refl, attribute_no)

cells_again : (cs : List ℕ) → IsLawfulArray (cells_of cs) → IsAgain (cells_of cs)
cells_again [] h = absurd (let p = (and_parts (is_shape (1 ∷ [])) false h.shape).1 in cc)
cells_again (c ∷ cs) h =
    let all = c ∷ cs in
    let n = suc (length cs) in
    let a = cells_of all in
    let grid = (and_parts (is_shape (2 ^ n ∷ [])) (is_grid all) h.shape).1 in
    let g = and_parts (nat_le 1 n && nat_le n 3) (list_all (λ c. nat_le 1 c) all) grid in
    let few = is_le n 3 (and_parts (nat_le 1 n) (nat_le n 3) g.0).1 in
    let is : IsGrid c cs = record { few = omega (arith, few); counts = counts_of_grid all g.1 h.counts } in
    record {
      first = codes "gridconnections";
      others = key (codes "counts") ∷ map natural all;
      words = refl;
      good = (key_good (codes "gridconnections") refl, (key_good (codes "counts") refl, naturals_good 1 4294967295 all is.counts));
      lines = tt;
      stand = λ xs j u ws o m e hx last isnt r.
          let v = front_of xs j u ws isnt in
          let shown = subst (λ (l : List Word). Runs m (key (codes "gridconnections") ∷ key (codes "counts") ∷ (map natural all ++ l)) e) v.2 r in
          let p = cells_stand o c cs v.0 v.1 m e is v.3 (fine a h o) shown in
          let q = array_stands (grid_cells o) a xs j u ws m p.0 e hx last p.1 (subst (λ (l : List Word). Runs p.0 l e) (sym v.2) p.2) in
          record { got = q.got; at = q.at; stand = gridconnections_class o q.got _ m q.at e r q.stand; behind = q.behind; same = q.same };
    }

-- every array that can be made, with its origin and deltas in the int range
again_of : (t : ElemType) (es : List ℕ) (c : Class) → IsLawfulArray (made t es c) → HasInts c → IsAgain (made t es c)
again_of t es (plain vs) h i = plain_again t es vs h
again_of t es (constant n v) h i = constant_again t es n v h
again_of t es (regular n o d) h i = regular_again t es n o d h i
again_of t es (grid_positions cs o ds) h i =
    let same : points_of cs o ds ≡ made t es (grid_positions cs o ds) = λ x. record { elem = sym h.of_grid.0 x; extents = sym h.of_grid.1 x; class = grid_positions cs o ds } in
    subst IsAgain same (points_again cs o ds (subst IsLawfulArray (sym same) h) i)
again_of t es (grid_connections cs) h i =
    let same : cells_of cs ≡ made t es (grid_connections cs) = λ x. record { elem = sym h.of_grid.0 x; extents = sym h.of_grid.1 x; class = grid_connections cs } in
    subst IsAgain same (cells_again cs (subst IsLawfulArray (sym same) h))

pub lawful_again : (a : ArrayData) → IsLawfulArray a → HasInts a.class → IsAgain a
lawful_again a h i = again_of a.elem a.extents a.class h i
