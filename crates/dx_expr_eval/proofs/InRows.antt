-- Items of a vector expression whose components' values stand in rows.
use Rattle.std.proofs.Common.{◌≡◌, ℕ, zero, suc, ◌+◌, ◌-◌, ◌*◌, ◌<◌, ◌≤◌, Bool, true, false, List, [], ◌∷◌, ◌++◌, ℤ, pos, length, take, drop, get_or, Option, Some, None, Result, Ok, Err, refl, sym, ap, subst, ◌∙◌, length-append, append_assoc, append-nil, arith}
use Rattle.std.specs.Prelude.{map, slice_index_or, slice_set, nat_lt, IsSome, IfSome, IfOk}
use Rattle.std.specs.List.{range_with_len}
use Rattle.std.proofs.lemmas.List.{length-take-le, length-drop, ext_get_or, get_or-take, get_or-drop, take-append-drop, nil_from_length, get_or-set_other, get_or-set_same, drop_all, take_all}
use Rattle.std.proofs.lemmas.Nat.{same_from_place}
use Rattle.std.proofs.lemmas.Bool.{ltb-true, ltb-false}
use Rattle.dx_expr_grammar.specs.declared.tree.Expression.{Expression}
use Rattle.dx_expr.specs.declared.fault.ItemFault.{ItemFault}
use Rattle.dx_expr_grammar.specs.declared.tree.Expression.TheVariants as x
use Rattle.dx_expr.specs.Shape.{Shape, shape_of}
use Rattle.dx_base.specs.declared.fail.Fail.{Fail}
use Rattle.dx_base.specs.Answers.{Answers, IsEither, refused}
use Rattle.dx_expr.specs.Value.{Inputs, Outcome, Values, value_of, joined, size, ◌>>=◌}
use Rattle.dx_expr.specs.Evaluated.{behind}
use Rattle.dx_expr.proofs.Lengths.{value_count}
use Rattle.dx_expr_columns.specs.Columns.{column, part_at}
use Rattle.dx_expr_columns.specs.Scalars.{HasValuesOf}
use Rattle.dx_expr_columns.proofs.Columns.{column_single, column_values}
use Rattle.dx_expr_blocks.specs.Block.{Run, up_to, single, block_of, before}
use Rattle.dx_expr_eval.specs.Items.{all_values, faultless}
use Rattle.dx_expr_eval.specs.Rows.{AreColumns, HaveValues, Fails}
use Rattle.dx_expr_eval.proofs.Making.{range_map_length, first_at}
use Rattle.dx_expr_eval.proofs.Blocks.{joined_more, range_split}

-- ---- a run of values

reached : (os : List (Outcome ℤ)) (i : ℕ) (d : Outcome ℤ) → i < length (up_to os).values → get_or os i d ≡ Ok (get_or (up_to os).values i (pos 0))
reached [] i d h = absurd (omega arith)
reached (Ok v ∷ os) zero d h = refl
reached (Ok v ∷ os) (suc i) d h = reached os i d (omega arith)
reached (Err f ∷ os) i d h = absurd (omega arith)

reached_length : (os : List (Outcome ℤ)) → length (up_to os).values ≤ length os
reached_length [] = omega arith
reached_length (Ok v ∷ os) = let h = reached_length os in omega (arith, h)
reached_length (Err f ∷ os) = omega arith

map_range_length : {B : Type 0} (f : ℕ → B) (from n : ℕ) → length (map f (range_with_len from n)) ≡ n
map_range_length f from zero = refl
map_range_length f from (suc n) = ap suc (map_range_length f (from + 1) n)

map_range_at : {B : Type 0} (f : ℕ → B) (from n i : ℕ) (d : B) → i < n → get_or (map f (range_with_len from n)) i d ≡ f (from + i)
map_range_at f from zero i d h = absurd (omega arith)
map_range_at f from (suc n) zero d h = ap f (omega arith)
map_range_at f from (suc n) (suc i) d h = map_range_at f (from + 1) n i d (omega arith) ∙ ap f (omega arith)

one_value : (o : Outcome Values) (v : ℤ) → ((vs : Values) → o ≡ Ok vs → length vs ≡ 1) → single o ≡ Ok v → o ≡ Ok (v ∷ [])
one_value (Err f) v one h = absurd cc
one_value (Ok []) v one h = absurd (omega (arith, one [] refl))
one_value (Ok (w ∷ [])) v one h = let e : w ≡ v = cc in ap (λ x. Ok (x ∷ [])) e
one_value (Ok (w ∷ x ∷ vs)) v one h = absurd (omega (arith, one (w ∷ x ∷ vs) refl))

-- a block has no more values than items
pub run_length : (inputs : Inputs) (x : Expression) (from n : ℕ) (run : Run ℤ) → block_of inputs x (range_with_len from n) ≡ run → length run.values ≤ n
run_length inputs x from n run h =
    let os = map (λ item. single (value_of inputs item x)) (range_with_len from n) in
    let a : length run.values ≡ length (up_to os).values = ap (λ (r : Run ℤ). length r.values) (sym h) in
    omega (arith, a, reached_length os, map_range_length (λ item. single (value_of inputs item x)) from n)

-- and each of them is the value of its item
pub run_value : (inputs : Inputs) (x : Expression) (from n : ℕ) (run : Run ℤ) → shape_of inputs.shape x ≡ Some [] → block_of inputs x (range_with_len from n) ≡ run →
    (i : ℕ) → i < length run.values → value_of inputs (from + i) x ≡ Ok (slice_index_or run.values i (pos 0) ∷ [])
run_value inputs x from n run is h i below =
    let f : ℕ → Outcome ℤ = λ item. single (value_of inputs item x) in
    let os = map f (range_with_len from n) in
    let a : length run.values ≡ length (up_to os).values = ap (λ (r : Run ℤ). length r.values) (sym h) in
    let few = run_length inputs x from n run h in
    one_value (value_of inputs (from + i) x) (slice_index_or run.values i (pos 0)) (λ vs g. value_count inputs (from + i) x [] vs is g)
    (sym (map_range_at f from n i (f 0) (omega (arith, few, below))) ∙ reached os i (f 0) (omega (arith, a, below)) ∙ ap (λ (r : Run ℤ). Ok (slice_index_or r.values i (pos 0))) h)

-- ---- rows

row_next : (i w j : ℕ) → suc i * w + j ≡ w + (i * w + j)
row_next i w j = omega arith

module _ (inputs : Inputs) (e : Expression) (columns : List Expression) (are : AreColumns inputs e columns) where
  abbrev w : ℕ
  w = length columns

  abbrev V : ℕ → Outcome Values
  V item = value_of inputs item e

  pub columns_single : (j : ℕ) → j < length columns → shape_of inputs.shape (part_at columns j) ≡ Some []
  columns_single j below = are.singles j below

  -- an item's row
  row_values : (item : ℕ) (values : Values) → w ≤ length values → ((j : ℕ) → j < w → value_of inputs item (part_at columns j) ≡ Ok (slice_index_or values j (pos 0) ∷ [])) → V item ≡ Ok (take w values)
  row_values item values enough h =
      let r = are.values item (λ j. slice_index_or values j (pos 0)) h in
      let len : length r.found ≡ w = r.many in
      let taken : length (take w values) ≡ w = length-take-le w values enough in
      let same : r.found ≡ take w values = ext_get_or (pos 0) r.found (take w values) (omega (arith, len, taken)) (λ i below. r.each i (omega (arith, len, below)) ∙ sym (get_or-take w values i (pos 0) (omega (arith, len, below)))) in
      r.are ∙ ap (λ l. Ok l) same

  -- the rows are the items' values
  pub rows_joined : (from count : ℕ) (values : Values) → length values ≡ count * w → HaveValues inputs columns w from count w values → joined (map V (range_with_len from count)) ≡ Ok values
  rows_joined from zero values len h = let z : length values ≡ 0 = omega (arith, len) in ap (λ l. Ok l) (sym (nil_from_length values z))
  rows_joined from (suc count) values len h =
      let n : length values ≡ w + count * w = omega (arith, len) in
      let first = row_values from values (omega (arith, n)) (λ j below. ap (λ k. value_of inputs k (part_at columns j)) (omega arith) ∙ h 0 j (omega arith) below ∙ ap (λ k. Ok (slice_index_or values k (pos 0) ∷ [])) (omega arith)) in
      let dropped : length (drop w values) ≡ count * w = length-drop w values ∙ (omega (arith, n)) in
      let rest = rows_joined (from + 1) count (drop w values) dropped (λ i j below in_row.
      ap (λ k. value_of inputs k (part_at columns j)) (omega arith) ∙ h (suc i) j (omega arith) in_row
      ∙ ap (λ k. Ok (slice_index_or values k (pos 0) ∷ [])) (row_next i w j) ∙ ap (λ v. Ok (v ∷ [])) (sym (get_or-drop w values (i * w + j) (pos 0)))) in
      ap (λ (o : Outcome Values). o >>= λ x. joined (map V (range_with_len (from + 1) count)) >>= λ xs. Ok (x ++ xs)) first
      ∙ ap (λ (o : Outcome Values). o >>= λ xs. Ok (take w values ++ xs)) rest ∙ ap (λ l. Ok l) (take-append-drop w values)

-- ---- a place of each row

-- what holds of each number before one, and of it
pub up_to_last : (P : ℕ → Type 0) (r : ℕ) → ((i : ℕ) → i < r → P i) → P r → (i : ℕ) → i < r + 1 → P i
up_to_last P r each last i below = by (nat_lt i r) refl
  where
    by : (t : Bool) → nat_lt i r ≡ t → P i
    by true is = each i (ltb-true i r is)
    by false is = let le : r ≤ i = ltb-false i r is in let same : r ≡ i = omega (arith, le, below) in subst P same last

-- a value in its place
pub placed : (rows values : Values) (w place r : ℕ) (v : ℤ) → v ≡ slice_index_or values r (pos 0) → place < w → r * w + place < length rows →
    ((i : ℕ) → i < r → slice_index_or rows (i * w + place) (pos 0) ≡ slice_index_or values i (pos 0)) → (i : ℕ) → i < r + 1 → slice_index_or (slice_set rows (r * w + place) v) (i * w + place) (pos 0) ≡ slice_index_or values i (pos 0)
placed rows values w place r v is in_row within each = up_to_last (λ i. slice_index_or (slice_set rows (r * w + place) v) (i * w + place) (pos 0) ≡ slice_index_or values i (pos 0)) r
    (λ i below. get_or-set_other rows (r * w + place) (i * w + place) v (pos 0) (λ e. let same : i ≡ r = (same_from_place i place r place w in_row in_row e).0 in absurd (omega (arith, same, below))) ∙ each i below)
    (get_or-set_same rows (r * w + place) v (pos 0) within ∙ is)

pub whole_slice : (n : ℕ) (new old : Values) → n ≡ length old → length new ≡ length old → take n (new ++ drop (length new) old) ≡ new
whole_slice n new old is same = ap (λ l. take n (new ++ l)) (drop_all (length new) old (omega (arith, same))) ∙ ap (take n) (append-nil new) ∙ take_all n new (omega (arith, is, same))

-- one component more has its values
pub rows_more : (inputs : Inputs) (columns : List Expression) (x : Expression) (from n place count fewer w : ℕ) (run : Run ℤ) (old new : Values) →
    part_at columns place ≡ x → shape_of inputs.shape x ≡ Some [] → block_of inputs x (range_with_len from n) ≡ run → fewer ≤ count → fewer ≤ length run.values → place < w →
    HaveValues inputs columns place from count w old → ((i : ℕ) → i < fewer → slice_index_or new (i * w + place) (pos 0) ≡ slice_index_or run.values i (pos 0)) →
    ((i j : ℕ) → j < w → (j ≡ place → ⊥) → slice_index_or new (i * w + j) (pos 0) ≡ slice_index_or old (i * w + j) (pos 0)) → HaveValues inputs columns (place + 1) from fewer w new
rows_more inputs columns x from n place count fewer w run old new is is_single h le enough in_row before column others i j below =
    up_to_last (λ j. value_of inputs (from + i) (part_at columns j) ≡ Ok (slice_index_or new (i * w + j) (pos 0) ∷ [])) place
    (λ j first. before i j (omega (arith, below, le)) first ∙ ap (λ v. Ok (v ∷ [])) (sym (others i j (omega (arith, first, in_row)) (λ e. absurd (omega (arith, e, first))))))
    (ap (value_of inputs (from + i)) is ∙ run_value inputs x from n run is_single h i (omega (arith, below, enough)) ∙ ap (λ v. Ok (v ∷ [])) (sym (column i below)))
    j

-- ---- items after items

module _ (inputs : Inputs) (e : Expression) where
  abbrev G : ℕ → Outcome Values
  G item = value_of inputs item e

  abbrev some_items : ℕ → ℕ → Outcome Values
  some_items from count = joined (map G (range_with_len from count))

  more_items : (from m n : ℕ) → some_items from (m + n) ≡ (some_items from m >>= λ x. some_items (from + m) n >>= λ y. Ok (x ++ y))
  more_items from m n = ap (λ l. joined (map G l)) (range_split from m n) ∙ joined_more G (range_with_len from m) (range_with_len (from + m) n)

  alone_joined : (o : Outcome Values) → (o >>= λ x. Ok (x ++ [])) ≡ o
  alone_joined (Ok x) = ap (λ l. Ok l) (append-nil x)
  alone_joined (Err f) = refl

  -- one item more
  pub item_more : (from count : ℕ) (values vs : Values) → some_items from count ≡ Ok values → G (from + count) ≡ Ok vs → some_items from (count + 1) ≡ Ok (values ++ vs)
  item_more from count values vs h g =
      more_items from count 1
      ∙ ap (λ (o : Outcome Values). o >>= λ x. some_items (from + count) 1 >>= λ y. Ok (x ++ y)) h
      ∙ ap (λ (o : Outcome Values). o >>= λ y. Ok (values ++ y)) (alone_joined (G (from + count)) ∙ g)

  -- an item that has a fault
  pub item_fails : (from count to : ℕ) (values : Values) (fault : ItemFault) → count < to - from → some_items from count ≡ Ok values → G (from + count) ≡ Err fault → Fails inputs e from to fault
  item_fails from count to values fault below h g n le =
      let k : n - from ≡ count + suc (n - from - count - 1) = omega (arith, below, le) in
      ap (some_items from) k ∙ more_items from count (suc (n - from - count - 1))
      ∙ ap (λ (o : Outcome Values). o >>= λ x. some_items (from + count) (suc (n - from - count - 1)) >>= λ y. Ok (x ++ y)) h
      ∙ ap (λ (o : Outcome Values). (o >>= λ x. some_items (from + count + 1) (n - from - count - 1) >>= λ xs. Ok (x ++ xs)) >>= λ y. Ok (values ++ y)) g

  next_items : (from count n : ℕ) (values : Values) → from + count ≤ n → some_items from count ≡ Ok values → some_items from (n - from) ≡ (some_items (from + count) (n - (from + count)) >>= λ y. Ok (values ++ y))
  next_items from count n values le h =
      let k : n - from ≡ count + (n - (from + count)) = omega (arith, le) in
      ap (some_items from) k ∙ more_items from count (n - (from + count))
      ∙ ap (λ (o : Outcome Values). o >>= λ x. some_items (from + count) (n - (from + count)) >>= λ y. Ok (x ++ y)) h

  -- items that are done: their values stand behind those before
  pub items_done : (found : Values) (from count n : ℕ) (values : Values) → from + count ≤ n → some_items from count ≡ Ok values →
      behind found (some_items from (n - from)) ≡ behind (found ++ values) (some_items (from + count) (n - (from + count)))
  items_done found from count n values le h = ap (λ o. behind found o) (next_items from count n values le h) ∙ by (some_items (from + count) (n - (from + count)))
    where
      by : (o : Outcome Values) → behind found (o >>= λ y. Ok (values ++ y)) ≡ behind (found ++ values) o
      by (Ok y) = ap (λ l. Ok l) (sym (append_assoc found values y))
      by (Err fault) = refl

  pub items_clear : (from count n : ℕ) (values : Values) → from + count ≤ n → some_items from count ≡ Ok values →
      faultless (some_items from (n - from)) ≡ faultless (some_items (from + count) (n - (from + count)))
  items_clear from count n values le h = ap faultless (next_items from count n values le h) ∙ by (some_items (from + count) (n - (from + count)))
    where
      by : (o : Outcome Values) → faultless (o >>= λ y. Ok (values ++ y)) ≡ faultless o
      by (Ok y) = refl
      by (Err fault) = refl

-- ---- answers

pub either_fails : {A B : Type 0} (P : A → Type 0) (Q : ItemFault → Type 0) (there : Result B ItemFault) (r : Result A (Fail ItemFault)) (e : Fail ItemFault) → r ≡ Err e →
    ((fault : ItemFault) → there ≡ Err fault → Q fault) → IfSome (refused e) (λ fault. there ≡ Err fault) → IsEither refused P Q r
either_fails {A} {B} P Q there r e is step h = subst (λ r. IsEither refused P Q r) (sym is) (by (refused e) h)
  where
    by : (o : Option ItemFault) → IfSome o (λ fault. there ≡ Err fault) → IfSome o Q
    by None h = tt
    by (Some fault) h = step fault h

made_of : {A B : Type 0} (o : Outcome A) (f : A → Outcome B) (b : B) → (o >>= f) ≡ Ok b → (a : A) × (o ≡ Ok a) × (f a ≡ Ok b)
made_of (Ok a) f b h = (a, refl, h)
made_of (Err fault) f b h = absurd cc

next_count : (n w : ℕ) → suc n * w ≡ w + n * w
next_count n w = omega arith

joined_count : (inputs : Inputs) (e : Expression) (s : Shape) → shape_of inputs.shape e ≡ Some s → (from n : ℕ) (vs : Values) → joined (map (λ item. value_of inputs item e) (range_with_len from n)) ≡ Ok vs → length vs ≡ n * size s
joined_count inputs e s is from zero vs h = let g : [] ≡ vs = cc in let z : 0 ≡ 0 * size s = omega arith in sym (ap length g) ∙ z
joined_count inputs e s is from (suc n) vs h =
    let rest : Outcome Values = joined (map (λ item. value_of inputs item e) (range_with_len (from + 1) n)) in
    let r = made_of (value_of inputs from e) (λ x. rest >>= λ xs. Ok (x ++ xs)) vs h in
    let l = made_of rest (λ xs. Ok (r.0 ++ xs)) vs r.2 in
    let one = value_count inputs from e s r.0 is r.1 in
    let more = joined_count inputs e s is (from + 1) n l.0 l.1 in
    let g : r.0 ++ l.0 ≡ vs = let k = l.2 in cc in
    omega (arith, one, more, ap length g, length-append r.0 l.0, next_count n (size s))

-- all values are as many as the shape says
pub all_count : (inputs : Inputs) (e : Expression) (n : ℕ) (s : Shape) → shape_of inputs.shape e ≡ Some s → (r : Result Values (Fail ItemFault)) → Answers refused (all_values inputs e n) r → IfOk r (λ vs. length vs ≡ n * size s)
all_count inputs e n s is (Ok vs) h = joined_count inputs e s is 0 n vs h
all_count inputs e n s is (Err f) h = tt

-- the components of a vector of few values
pub are_columns : (inputs : Inputs) (e : Expression) (n : ℕ) (columns : List Expression) → 0 < n → n ≤ 16 → shape_of inputs.shape e ≡ Some (n ∷ []) → columns ≡ map (λ j. column inputs.shape j e) (range_with_len 0 n) → AreColumns inputs e columns
are_columns inputs e n columns some few shape is =
    let len : length columns ≡ n = ap length is ∙ range_map_length (λ j. column inputs.shape j e) 0 n in
    let each : (j : ℕ) → j < length columns → part_at columns j ≡ column inputs.shape j e =
    λ j below. ap (λ l. part_at l j) is ∙ first_at (λ j. column inputs.shape j e) n j (x.Number 0) (omega (arith, len, below)) in
    record {
      fits = subst IsSome (sym shape) refl;
      few = omega (arith, len, few);
      singles = λ j below. ap (shape_of inputs.shape) (each j below) ∙ column_single inputs n e shape j (omega (arith, len, below));
      values = λ item v h.
          let r = column_values inputs item n e (omega (arith, some)) shape v (λ j below. let g : j < length columns = omega (arith, len, below) in sym (ap (value_of inputs item) (each j g)) ∙ h j g) in
          let count : length r.0 ≡ n = r.2 in
          record { found = r.0; are = r.1; many = omega (arith, count, len); each = λ j below. r.3 j (omega (arith, len, below)) };
    }

-- one that is a single value, and has its values wherever it has some
pub is_column : (inputs : Inputs) (e one : Expression) → shape_of inputs.shape e ≡ Some [] → shape_of inputs.shape one ≡ Some [] → HasValuesOf inputs one e → AreColumns inputs e (one ∷ [])
is_column inputs e one fits is has = record {
  fits = subst IsSome (sym fits) refl;
  few = omega arith;
  singles = λ j below. let z : 0 ≡ j = omega (arith, below) in ap (λ k. shape_of inputs.shape (part_at (one ∷ []) k)) (sym z) ∙ is;
  values = λ item v h.
      record {
        found = v 0 ∷ [];
        are = has item (v 0 ∷ []) (h 0 (omega arith));
        many = refl;
        each = λ j below. let z : 0 ≡ j = omega (arith, below) in ap (λ k. slice_index_or (v 0 ∷ []) k (pos 0)) (sym z) ∙ ap v z;
      };
}

pub found_columns : {E : Type 0} (inputs : Inputs) (e : Expression) (n : ℕ) (r : Result (List Expression) E) → 0 < n → n ≤ 16 → shape_of inputs.shape e ≡ Some (n ∷ []) → IfOk r (λ found. found ≡ map (λ j. column inputs.shape j e) (range_with_len 0 n)) →
    IfOk r (λ found. 0 < length found → AreColumns inputs e found)
found_columns inputs e n (Ok found) some few shape is = λ any. are_columns inputs e n found some few shape is
found_columns inputs e n (Err f) some few shape is = tt
