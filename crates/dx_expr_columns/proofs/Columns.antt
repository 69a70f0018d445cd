-- An expression of n values has its values where each of its components has one.
use Rattle.std.proofs.Common.{◌≡◌, ℕ, zero, suc, ◌+◌, ◌*◌, ◌<◌, ◌≤◌, ℤ, pos, Bool, true, false, List, [], ◌∷◌, ◌++◌, ◌⊎◌, inl, inr, length, get_or, Option, Some, None, Ok, Err, refl, sym, ap, subst, ◌∙◌, arith}
use Rattle.std.specs.Prelude.{map, ◌==◌, ◌||◌, ◌&&◌, if◌then◌else◌, slice_index_or}
use Rattle.std.specs.List.{range_with_len}
use Rattle.std.proofs.lemmas.Bool.{eqb-true, lt-ltb}
use Rattle.dx_expr_grammar.specs.declared.tree.Unary.{Unary}
use Rattle.dx_expr_grammar.specs.declared.tree.Unary.TheVariants as unary
use Rattle.dx_expr_grammar.specs.declared.tree.Binary.{Binary}
use Rattle.dx_expr_grammar.specs.declared.tree.Binary.TheVariants as binary
use Rattle.dx_expr_grammar.specs.declared.tree.Expression.{Expression, roll-Expression, out-Expression}
use Rattle.dx_expr_grammar.specs.declared.tree.Expression.TheViews.{roll-out-Expression}
use Rattle.dx_expr_grammar.specs.declared.tree.Expression.TheVariants as e
use Rattle.dx_expr_grammar.specs.declared.tree.Expression.TheVariants.{rolls-Number, rolls-Input, rolls-Unary, rolls-Binary, rolls-Choice, rolls-Part, rolls-Vector}
use Rattle.dx_expr_grammar.specs.declared.tree.Expression.TheOpen.{Expression-F}
use Rattle.dx_expr.specs.declared.operators.Sides.{Sides}
use Rattle.dx_expr.specs.declared.operators.Sides.TheVariants as sides
use Rattle.dx_expr.specs.Shape.{Shape, shape_of, unary_shape, binary_shape, choice_shape, beside, single_if, is_single, is_vector, same_shape, has_part, with_one, with_two, all_single}
use Rattle.dx_expr.specs.Value.{Inputs, Outcome, Values, value_of, values_by, sides_of, side_by_side, places, joined, size, each, checked, alone, is_zero, the_value, unary_value, binary_value, value_at, input_values, ◌>>=◌}
use Rattle.dx_expr.proofs.Fitting.{both_true, single_is, single_at}
use Rattle.dx_expr.proofs.Lengths.{value_count}
use Rattle.dx_expr.proofs.Nodes.{nodes, in_unary, in_left, in_right, in_one, in_other}
use Rattle.dx_expr.proofs.Equations.{value_unary, value_binary, value_choice, value_part, value_vector, shape_number, shape_input, shape_unary, shape_binary, shape_choice, shape_part, shape_vector}
use Rattle.dx_expr_columns.specs.Columns.{column, part_at, where_by_value}
use Rattle.dx_expr_columns.proofs.Equations.{column_number, column_input, column_unary, column_binary, column_choice, column_part, column_vector}

-- ---- outcomes

pub made_of : {A B : Type 0} (o : Outcome A) (f : A → Outcome B) (b : B) → (o >>= f) ≡ Ok b → (a : A) × (o ≡ Ok a) × (f a ≡ Ok b)
made_of (Ok a) f b h = (a, refl, h)
made_of (Err fault) f b h = absurd cc

abbrev pub IsOne : Outcome Values → Type 0
IsOne o = (vs : Values) → o ≡ Ok vs → length vs ≡ 1

-- the value of an outcome that has one
abbrev pub got : Outcome Values → ℤ
got (Ok vs) = the_value vs
got (Err fault) = pos 0

-- the outcome is one value
abbrev pub Has : Outcome Values → ℤ → Type 0
Has o v = o ≡ Ok (v ∷ [])

same_value : (v w : ℤ) → (let o : Outcome ℤ = Ok v in o ≡ Ok w) → v ≡ w
same_value v w h = cc

pub same_one : (o : Outcome Values) (v w : ℤ) → Has o v → Has o w → v ≡ w
same_one o v w h g = let l : v ∷ [] ≡ w ∷ [] = (let k : (let p : Outcome Values = Ok (v ∷ []) in p ≡ Ok (w ∷ [])) = sym h ∙ g in cc) in cc

alone_is : (v w : ℤ) → alone v ≡ Ok (w ∷ []) → v ≡ w
alone_is v w h = let l : v ∷ [] ≡ w ∷ [] = cc in cc

one_made : (o : Outcome ℤ) (w : ℤ) → (o >>= λ v. Ok (v ∷ [])) ≡ Ok (w ∷ []) → o ≡ Ok w
one_made (Ok v) w h = let l : v ∷ [] ≡ w ∷ [] = cc in cc
one_made (Err f) w h = absurd cc

unary_one : (u : ℤ → Outcome ℤ) (o : Outcome Values) (w : ℤ) → IsOne o → Has (o >>= each u) w → Has o (got o) × (u (got o) ≡ Ok w)
unary_one u (Err f) w one h = absurd cc
unary_one u (Ok []) w one h = absurd (omega (arith, one [] refl))
unary_one u (Ok (v ∷ [])) w one h = (refl, one_made (u v) w h)
unary_one u (Ok (v ∷ x ∷ vs)) w one h = absurd (omega (arith, one (v ∷ x ∷ vs) refl))

pub both_one : (f : ℤ → ℤ → Outcome ℤ) (a b : Outcome Values) (w : ℤ) → IsOne a → IsOne b → Has (a >>= λ x. b >>= λ y. side_by_side f x y) w → Has a (got a) × Has b (got b) × (f (got a) (got b) ≡ Ok w)
both_one f (Err g) b w one other h = absurd cc
both_one f (Ok []) b w one other h = absurd (omega (arith, one [] refl))
both_one f (Ok (v ∷ [])) (Err g) w one other h = absurd cc
both_one f (Ok (v ∷ [])) (Ok []) w one other h = absurd (omega (arith, other [] refl))
both_one f (Ok (v ∷ [])) (Ok (x ∷ [])) w one other h = (refl, refl, one_made (f v x) w h)
both_one f (Ok (v ∷ [])) (Ok (x ∷ y ∷ vs)) w one other h = absurd (omega (arith, other (x ∷ y ∷ vs) refl))
both_one f (Ok (v ∷ x ∷ vs)) b w one other h = absurd (omega (arith, one (v ∷ x ∷ vs) refl))

-- ---- lists of values

-- where each place has a value, so has the list
pub each_all : {A : Type 0} (f : A → Outcome ℤ) (d : A) (v : ℕ → ℤ) (l : List A) → ((i : ℕ) → i < length l → f (get_or l i d) ≡ Ok (v i)) →
    (ws : Values) × (each f l ≡ Ok ws) × (length ws ≡ length l) × ((i : ℕ) → i < length l → slice_index_or ws i (pos 0) ≡ v i)
each_all f d v [] h = ([], refl, refl, λ i below. absurd (omega arith))
each_all {A} f d v (a ∷ l) h =
    let rest = each_all f d (λ i. v (suc i)) l (λ i below. h (suc i) (omega arith)) in
    let n : length rest.0 ≡ length l = rest.2 in (
      v 0 ∷ rest.0,
      ap (λ (o : Outcome ℤ). o >>= λ x. each f l >>= λ xs. Ok (x ∷ xs)) (h 0 (omega arith)) ∙ ap (λ (o : Outcome Values). o >>= λ xs. Ok (v 0 ∷ xs)) rest.1,
      ap suc n,
      places_of rest.0 rest.3,
    )
  where
    places_of : (ws : Values) → ((i : ℕ) → i < length l → slice_index_or ws i (pos 0) ≡ v (suc i)) → (i : ℕ) → i < suc (length l) → slice_index_or (v 0 ∷ ws) i (pos 0) ≡ v i
    places_of ws g zero below = refl
    places_of ws g (suc i) below = g i (omega arith)

range_at : (from n i d : ℕ) → i < n → get_or (range_with_len from n) i d ≡ from + i
range_at from zero i d h = absurd (omega arith)
range_at from (suc n) zero d h = omega arith
range_at from (suc n) (suc i) d h = let e : from + 1 + i ≡ from + suc i = omega arith in range_at (from + 1) n i d (omega arith) ∙ e

range_length : (a n : ℕ) → length (range_with_len a n) ≡ n
range_length a zero = refl
range_length a (suc n) = ap suc (range_length (a + 1) n)

-- a value at a place that a list has
pub own_place : (vs : Values) (i : ℕ) → i < length vs → value_at vs i ≡ slice_index_or vs i (pos 0)
own_place vs i below = by (length vs == 1) refl
  where
    by : (t : Bool) → (length vs == 1) ≡ t → slice_index_or vs (if t then 0 else i) (pos 0) ≡ slice_index_or vs i (pos 0)
    by true is = let one : length vs ≡ 1 = eqb-true (length vs) 1 is in let z : 0 ≡ i = omega arith in ap (λ k. slice_index_or vs k (pos 0)) z
    by false is = refl

-- a single value is at each place
any_place : (vs : Values) (i j : ℕ) → length vs ≡ 1 → value_at vs i ≡ value_at vs j
any_place vs i j one = ap (λ m. slice_index_or vs (if m == 1 then 0 else i) (pos 0)) one ∙ sym (ap (λ m. slice_index_or vs (if m == 1 then 0 else j) (pos 0)) one)

-- ---- shapes

-- a single value, or n values
abbrev Fits : ℕ → Shape → Type 0
Fits n s = (s ≡ []) ⊎ (s ≡ n ∷ [])

fits_along : (n : ℕ) (a s : Shape) → (let o : Option Shape = Some a in o ≡ Some s) → Fits n s → Fits n a
fits_along n a s h f = let e : a ≡ s = cc in subst (Fits n) (sym e) f

single_shape : (t : Bool) → (s : Shape) → single_if t ≡ Some s → t ≡ true
single_shape true s h = refl
single_shape false s h = absurd cc

unary_fits : (n : ℕ) (o : Unary) (a s : Shape) → unary_shape o a ≡ Some s → Fits n s → Fits n a
unary_fits n unary.Negate a s h f = fits_along n a s h f
unary_fits n unary.Not a s h f = inl (single_is a (single_shape (is_single a) s h))
unary_fits n unary.Absolute a s h f = fits_along n a s h f
unary_fits n unary.Sign a s h f = fits_along n a s h f

unary_single : (o : Unary) → unary_shape o [] ≡ Some []
unary_single unary.Negate = refl
unary_single unary.Not = refl
unary_single unary.Absolute = refl
unary_single unary.Sign = refl

same_shapes : (a b : Shape) → same_shape a b ≡ true → a ≡ b
same_shapes [] [] h = refl
same_shapes [] (n ∷ b) h = absurd cc
same_shapes (n ∷ a) [] h = absurd cc
same_shapes (n ∷ a) (m ∷ b) h =
    let t = both_true (n == m) (same_shape a b) h in
    let e : n ≡ m = eqb-true n m t.0 in
    let f = same_shapes a b t.1 in
    cc

singles : (n : ℕ) (a b s : Shape) → single_if (is_single a && is_single b) ≡ Some s → Fits n a × Fits n b
singles n a b s h = let t = both_true (is_single a) (is_single b) (single_shape (is_single a && is_single b) s h) in (inl (single_is a t.0), inl (single_is b t.1))

beside_fits : (n : ℕ) (a b s : Shape) → beside a b ≡ Some s → Fits n s → Fits n a × Fits n b
beside_fits n a b s h f = by (is_single a) (is_single b) (same_shape a b) refl refl refl h
  where
    by : (t u w : Bool) → is_single a ≡ t → is_single b ≡ u → same_shape a b ≡ w → (if t then Some b else (if u || w then Some a else None)) ≡ Some s → Fits n a × Fits n b
    by true u w p q r h = (inl (single_is a p), fits_along n b s h f)
    by false true w p q r h = (fits_along n a s h f, inl (single_is b q))
    by false false true p q r h = (fits_along n a s h f, subst (Fits n) (same_shapes a b r) (fits_along n a s h f))
    by false false false p q r h = absurd cc

binary_fits : (n : ℕ) (o : Binary) (a b s : Shape) → sides_of o ≡ sides.Both → binary_shape o a b ≡ Some s → Fits n s → Fits n a × Fits n b
binary_fits n binary.Or a b s k h f = absurd cc
binary_fits n binary.And a b s k h f = absurd cc
binary_fits n binary.Dot a b s k h f = absurd cc
binary_fits n binary.Equal a b s k h f = singles n a b s h
binary_fits n binary.NotEqual a b s k h f = singles n a b s h
binary_fits n binary.Less a b s k h f = singles n a b s h
binary_fits n binary.LessEqual a b s k h f = singles n a b s h
binary_fits n binary.Greater a b s k h f = singles n a b s h
binary_fits n binary.GreaterEqual a b s k h f = singles n a b s h
binary_fits n _ a b s k h f = beside_fits n a b s h f

binary_single : (o : Binary) → sides_of o ≡ sides.Both → binary_shape o [] [] ≡ Some []
binary_single binary.Dot k = absurd cc
binary_single binary.Or k = refl
binary_single binary.And k = refl
binary_single binary.Equal k = refl
binary_single binary.NotEqual k = refl
binary_single binary.Less k = refl
binary_single binary.LessEqual k = refl
binary_single binary.Greater k = refl
binary_single binary.GreaterEqual k = refl
binary_single _ k = refl

no_extents : (t : Bool) (s : Shape) → single_if t ≡ Some s → s ≡ []
no_extents true s h = cc
no_extents false s h = absurd cc

-- an operator that isn't by value gives a single value
other_shape : (o : Binary) (a b s : Shape) → (sides_of o ≡ sides.Both → ⊥) → binary_shape o a b ≡ Some s → s ≡ []
other_shape binary.Or a b s k h = no_extents (is_single a && is_single b) s h
other_shape binary.And a b s k h = no_extents (is_single a && is_single b) s h
other_shape binary.Dot a b s k h = no_extents (is_vector a && same_shape a b) s h
other_shape _ a b s k h = absurd (k refl)

choice_shapes : (z x y s : Shape) → choice_shape z x y ≡ Some s → (z ≡ []) × (x ≡ s) × (y ≡ s)
choice_shapes z x y s h = by (is_single z) (same_shape x y) refl refl h
  where
    by : (t v : Bool) → is_single z ≡ t → same_shape x y ≡ v → (if t && v then Some x else None) ≡ Some s → (z ≡ []) × (x ≡ s) × (y ≡ s)
    by true true one same h = let e : x ≡ s = cc in (single_is z one, e, sym (same_shapes x y same) ∙ e)
    by true false one same h = absurd cc
    by false v one same h = absurd cc

shape_from : (f : Shape → Option Shape) (o : Option Shape) (s : Shape) → with_one f o ≡ Some s → (a : Shape) × (o ≡ Some a) × (f a ≡ Some s)
shape_from f None s h = absurd cc
shape_from f (Some a) s h = (a, refl, h)

-- ---- expressions

module _ (inputs : Inputs) (item n : ℕ) (some : 1 ≤ n) where
  abbrev V : Expression → Outcome Values
  V a = value_of inputs item a

  abbrev S : Expression → Option Shape
  S a = shape_of inputs.shape a

  abbrev C : Expression → ℕ → Expression
  C a j = column inputs.shape j a

  -- each component has a value
  abbrev Each : Expression → (ℕ → ℤ) → Type 0
  Each x v = (j : ℕ) → j < n → Has (V (C x j)) (v j)

  -- and then so has the whole, in each place
  abbrev All : Expression → (ℕ → ℤ) → Type 0
  All x v = (vs : Values) × (V x ≡ Ok vs) × ((j : ℕ) → j < n → value_at vs j ≡ v j)

  record Law (x : Expression) : Type 0 where
    pub singles : (s : Shape) → S x ≡ Some s → Fits n s → (j : ℕ) → j < n → S (C x j) ≡ Some []
    pub values : (s : Shape) → S x ≡ Some s → Fits n s → (v : ℕ → ℤ) → Each x v → All x v

  is_one : (x : Expression) → S x ≡ Some [] → IsOne (V x)
  is_one x is vs h = value_count inputs item x [] vs is h

  count_of : (x : Expression) (s : Shape) (vs : Values) → S x ≡ Some s → Fits n s → V x ≡ Ok vs → (length vs ≡ 1) ⊎ (length vs ≡ n)
  count_of x s vs is (inl e) h = inl (value_count inputs item x [] vs (is ∙ ap (λ l. Some l) e) h)
  count_of x s vs is (inr e) h = let m : length vs ≡ n * 1 = value_count inputs item x (n ∷ []) vs (is ∙ ap (λ l. Some l) e) h in let k : length vs ≡ n = omega arith in inr k

  -- an expression that is its own component
  itself : (x : Expression) → ((j : ℕ) → C x j ≡ x) → ((s : Shape) → S x ≡ Some s → s ≡ []) → Law x
  itself x same none = record {
    singles = λ s is f j below. ap S (same j) ∙ is ∙ ap (λ l. Some l) (none s is);
    values = λ s is f v each.
        let first : Has (V x) (v 0) = sym (ap V (same 0)) ∙ each 0 (omega arith) in
        (v 0 ∷ [], first, λ j below. same_one (V x) (v 0) (v j) first (sym (ap V (same j)) ∙ each j below));
  }

  -- values that are found place by place
  collected : (m : ℕ) (h : ℕ → Outcome ℤ) (v : ℕ → ℤ) (ws : Values) → (m ≡ 1) ⊎ (m ≡ n) → ((j : ℕ) → j < n → h j ≡ Ok (v j)) → (m ≡ 1 → (j : ℕ) → h j ≡ h 0) → length ws ≡ m → ((i : ℕ) → i < m → slice_index_or ws i (pos 0) ≡ v i) → (j : ℕ) → j < n → value_at ws j ≡ v j
  collected m h v ws (inl one) each same len there j below =
      let l : length ws ≡ 1 = len ∙ one in
      any_place ws j 0 l ∙ own_place ws 0 (omega arith) ∙ there 0 (omega arith) ∙ same_value (v 0) (v j) (sym (each 0 (omega arith)) ∙ sym (same one j) ∙ each j below)
  collected m h v ws (inr all) each same len there j below = own_place ws j (omega arith) ∙ there j (omega arith)

  within : (m : ℕ) → (m ≡ 1) ⊎ (m ≡ n) → m ≤ n
  within m (inl one) = omega arith
  within m (inr all) = omega arith

  -- ---- kinds of expressions

  unary_law : (o : Unary) (a : Expression) → Law a → Law (e.Unary o a)
  unary_law o a law = record {
    singles = λ s is f j below.
        let t = shape_from (unary_shape o) (S a) s (sym (shape_unary inputs.shape o a) ∙ is) in
        ap S (column_unary inputs.shape j o a) ∙ shape_unary inputs.shape o (C a j) ∙ ap (with_one (unary_shape o)) (law.singles t.0 t.1 (unary_fits n o t.0 s t.2 f) j below) ∙ unary_single o;
    values = λ s is f v each.
        let t = shape_from (unary_shape o) (S a) s (sym (shape_unary inputs.shape o a) ∙ is) in
        let fa = unary_fits n o t.0 s t.2 f in
        let one : (j : ℕ) → j < n → Has (V (C a j)) (got (V (C a j))) × (unary_value o (got (V (C a j))) ≡ Ok (v j)) =
        λ j below. unary_one (unary_value o) (V (C a j)) (v j) (is_one (C a j) (law.singles t.0 t.1 fa j below)) (sym (value_unary inputs item o (C a j)) ∙ sym (ap V (column_unary inputs.shape j o a)) ∙ each j below) in
        let found = law.values t.0 t.1 fa (λ j. got (V (C a j))) (λ j below. (one j below).0) in
        by found.0 (count_of a t.0 found.0 t.1 fa found.1) found.1 v (λ j below. ap (unary_value o) (found.2 j below) ∙ (one j below).1);
  }
    where
      by : (xs : Values) → (length xs ≡ 1) ⊎ (length xs ≡ n) → V a ≡ Ok xs → (v : ℕ → ℤ) → ((j : ℕ) → j < n → unary_value o (value_at xs j) ≡ Ok (v j)) → All (e.Unary o a) v
      by xs count is v each =
          let le = within (length xs) count in
          let r = each_all (unary_value o) (pos 0) v xs (λ i below. ap (unary_value o) (sym (own_place xs i below)) ∙ each i (omega (arith, le, below))) in (
            r.0,
            value_unary inputs item o a ∙ ap (λ o'. o' >>= each_of) is ∙ r.1,
            collected (length xs) (λ j. unary_value o (value_at xs j)) v r.0 count each (λ one j. ap (unary_value o) (any_place xs j 0 one)) r.2 r.3,
          )
        where
          each_of : Values → Outcome Values
          each_of vs = Rattle.dx_expr.specs.Value.each (unary_value o) vs

  module _ (o : Binary) (a b : Expression) (k : sides_of o ≡ sides.Both) (left : Law a) (right : Law b) where
    column_both : (j : ℕ) → C (e.Binary o a b) j ≡ e.Binary o (C a j) (C b j)
    column_both j = column_binary inputs.shape j o a b ∙ ap (λ s. where_by_value s (e.Binary o (C a j) (C b j)) (e.Binary o a b)) k

    value_both : (x y : Expression) → V (e.Binary o x y) ≡ (V x >>= λ p. V y >>= λ q. side_by_side (binary_value o) p q)
    value_both x y = value_binary inputs item o x y ∙ ap (λ s. values_by s o (V x) (V y)) k

    both_by : (xs ys : Values) → (length xs ≡ 1) ⊎ (length xs ≡ n) → (length ys ≡ 1) ⊎ (length ys ≡ n) → (places xs ys ≡ 1) ⊎ (places xs ys ≡ n) → (places xs ys ≡ 1 → (length xs ≡ 1) × (length ys ≡ 1)) →
        V a ≡ Ok xs → V b ≡ Ok ys → (v : ℕ → ℤ) → ((j : ℕ) → j < n → binary_value o (value_at xs j) (value_at ys j) ≡ Ok (v j)) → All (e.Binary o a b) v
    both_by xs ys cx cy count one is_x is_y v each_j =
        let f : ℕ → Outcome ℤ = λ i. binary_value o (value_at xs i) (value_at ys i) in
        let m = places xs ys in
        let le = within m count in
        let len : length (range_with_len 0 m) ≡ m = range_length 0 m in
        let r = each_all f 0 v (range_with_len 0 m) (λ i below. ap f (range_at 0 m i 0 (omega (arith, len, below)) ∙ (let z : 0 + i ≡ i = omega arith in z)) ∙ each_j i (omega (arith, le, len, below))) in (
          r.0,
          value_both a b ∙ ap (λ (p : Outcome Values). p >>= λ x. V b >>= λ y. side_by_side (binary_value o) x y) is_x ∙ ap (λ (q : Outcome Values). q >>= λ y. side_by_side (binary_value o) xs y) is_y ∙ r.1,
          collected m f v r.0 count each_j (λ h j. ap (λ z. binary_value o z (value_at ys j)) (any_place xs j 0 (one h).0) ∙ ap (λ z. binary_value o (value_at xs 0) z) (any_place ys j 0 (one h).1)) (r.2 ∙ len) (λ i below. r.3 i (omega (arith, len, below))),
        )

    places_count : (xs ys : Values) → (length xs ≡ 1) ⊎ (length xs ≡ n) → (length ys ≡ 1) ⊎ (length ys ≡ n) → (places xs ys ≡ 1) ⊎ (places xs ys ≡ n)
    places_count xs ys cx cy = by (length xs == 1)
      where
        by : (t : Bool) → ((if t then length ys else length xs) ≡ 1) ⊎ ((if t then length ys else length xs) ≡ n)
        by true = cy
        by false = cx

    places_one : (xs ys : Values) → places xs ys ≡ 1 → (length xs ≡ 1) × (length ys ≡ 1)
    places_one xs ys h = by (length xs == 1) refl h
      where
        by : (t : Bool) → (length xs == 1) ≡ t → (if t then length ys else length xs) ≡ 1 → (length xs ≡ 1) × (length ys ≡ 1)
        by true is h = (eqb-true (length xs) 1 is, h)
        by false is h = let bad : (1 == 1) ≡ false = ap (λ m. m == 1) (sym h) ∙ is in absurd cc

    both_law : Law (e.Binary o a b)
    both_law = record {
      singles = λ s is f j below.
          let t = shape_from (λ x. with_one (binary_shape o x) (S b)) (S a) s (sym (shape_binary inputs.shape o a b) ∙ is) in
          let u = shape_from (binary_shape o t.0) (S b) s t.2 in
          let fits = binary_fits n o t.0 u.0 s k u.2 f in
          ap S (column_both j) ∙ shape_binary inputs.shape o (C a j) (C b j)
          ∙ ap (λ x. with_two (binary_shape o) x (S (C b j))) (left.singles t.0 t.1 fits.0 j below) ∙ ap (with_one (binary_shape o [])) (right.singles u.0 u.1 fits.1 j below) ∙ binary_single o k;
      values = λ s is f v each_j.
          let t = shape_from (λ x. with_one (binary_shape o x) (S b)) (S a) s (sym (shape_binary inputs.shape o a b) ∙ is) in
          let u = shape_from (binary_shape o t.0) (S b) s t.2 in
          let fits = binary_fits n o t.0 u.0 s k u.2 f in
          by t.0 u.0 t.1 u.1 fits.0 fits.1 v each_j;
    }
      where
        by : (p q : Shape) → S a ≡ Some p → S b ≡ Some q → Fits n p → Fits n q → (v : ℕ → ℤ) → Each (e.Binary o a b) v → All (e.Binary o a b) v
        by p q is_p is_q fp fq v each_j =
            let one : (j : ℕ) → j < n → Has (V (C a j)) (got (V (C a j))) × Has (V (C b j)) (got (V (C b j))) × (binary_value o (got (V (C a j))) (got (V (C b j))) ≡ Ok (v j)) =
            λ j below. both_one (binary_value o) (V (C a j)) (V (C b j)) (v j) (is_one (C a j) (left.singles p is_p fp j below)) (is_one (C b j) (right.singles q is_q fq j below)) (sym (value_both (C a j) (C b j)) ∙ sym (ap V (column_both j)) ∙ each_j j below) in
            let xs = left.values p is_p fp (λ j. got (V (C a j))) (λ j below. (one j below).0) in
            let ys = right.values q is_q fq (λ j. got (V (C b j))) (λ j below. (one j below).1) in
            let cx = count_of a p xs.0 is_p fp xs.1 in
            let cy = count_of b q ys.0 is_q fq ys.1 in
            both_by xs.0 ys.0 cx cy (places_count xs.0 ys.0 cx cy) (places_one xs.0 ys.0) xs.1 ys.1 v
            (λ j below. ap (λ z. binary_value o z (value_at ys.0 j)) (xs.2 j below) ∙ ap (binary_value o (got (V (C a j)))) (ys.2 j below) ∙ (one j below).2)

  -- an operator that isn't by value is its own component
  single_sides : (o : Binary) (a b : Expression) (k : Sides) → sides_of o ≡ k → (sides_of o ≡ sides.Both → ⊥) → ((x : Expression) → where_by_value k x (e.Binary o a b) ≡ e.Binary o a b) → Law (e.Binary o a b)
  single_sides o a b k is other whole = itself (e.Binary o a b)
      (λ j. column_binary inputs.shape j o a b ∙ ap (λ s. where_by_value s (e.Binary o (C a j) (C b j)) (e.Binary o a b)) is ∙ whole (e.Binary o (C a j) (C b j)))
      (λ s fits.
      let t = shape_from (λ x. with_one (binary_shape o x) (S b)) (S a) s (sym (shape_binary inputs.shape o a b) ∙ fits) in
      let u = shape_from (binary_shape o t.0) (S b) s t.2 in
      other_shape o t.0 u.0 s other u.2)

  by_sides : (k : Sides) (o : Binary) (a b : Expression) → sides_of o ≡ k → Law a → Law b → Law (e.Binary o a b)
  by_sides sides.Both o a b k left right = both_law o a b k left right
  by_sides sides.UnlessTrue o a b k left right = single_sides o a b sides.UnlessTrue k (λ h. let bad : sides.UnlessTrue ≡ sides.Both = sym k ∙ h in cc) (λ x. refl)
  by_sides sides.IfTrue o a b k left right = single_sides o a b sides.IfTrue k (λ h. let bad : sides.IfTrue ≡ sides.Both = sym k ∙ h in cc) (λ x. refl)
  by_sides sides.Vectors o a b k left right = single_sides o a b sides.Vectors k (λ h. let bad : sides.Vectors ≡ sides.Both = sym k ∙ h in cc) (λ x. refl)

  choice_law : (c a b : Expression) → Law a → Law b → Law (e.Choice c a b)
  choice_law c a b one other = record {
    singles = λ s is f j below.
        let t = shapes s is in
        ap S (column_choice inputs.shape j c a b) ∙ shape_choice inputs.shape c (C a j) (C b j)
        ∙ ap (with_one (λ x. with_two (choice_shape x) (S (C a j)) (S (C b j)))) t.0
        ∙ ap (λ x. with_two (choice_shape []) x (S (C b j))) (one.singles s t.1 f j below) ∙ ap (λ y. with_two (choice_shape []) (Some []) y) (other.singles s t.2 f j below);
    values = λ s is f v each_j.
        let t = shapes s is in
        let at : (j : ℕ) → j < n → (V c >>= λ x. if is_zero (the_value x) then V (C b j) else V (C a j)) ≡ Ok (v j ∷ []) =
        λ j below. sym (value_choice inputs item c (C a j) (C b j)) ∙ sym (ap V (column_choice inputs.shape j c a b)) ∙ each_j j below in
        let r = made_of (V c) (λ x. if is_zero (the_value x) then V (C b 0) else V (C a 0)) (v 0 ∷ []) (at 0 (omega arith)) in
        let there : (j : ℕ) → j < n → (if is_zero (the_value r.0) then V (C b j) else V (C a j)) ≡ Ok (v j ∷ []) =
        λ j below. sym (ap (λ (o : Outcome Values). o >>= λ x. if is_zero (the_value x) then V (C b j) else V (C a j)) r.1) ∙ at j below in
        let found = by (is_zero (the_value r.0)) s t.1 t.2 f v there in
        (found.0, value_choice inputs item c a b ∙ ap (λ (o : Outcome Values). o >>= λ x. if is_zero (the_value x) then V b else V a) r.1 ∙ found.1, found.2);
  }
    where
      shapes : (s : Shape) → S (e.Choice c a b) ≡ Some s → (S c ≡ Some []) × (S a ≡ Some s) × (S b ≡ Some s)
      shapes s is =
          let t = shape_from (λ z. with_two (choice_shape z) (S a) (S b)) (S c) s (sym (shape_choice inputs.shape c a b) ∙ is) in
          let u = shape_from (λ x. with_one (choice_shape t.0 x) (S b)) (S a) s t.2 in
          let w = shape_from (choice_shape t.0 u.0) (S b) s u.2 in
          let same = choice_shapes t.0 u.0 w.0 s w.2 in
          (t.1 ∙ ap (λ l. Some l) same.0, u.1 ∙ ap (λ l. Some l) same.1, w.1 ∙ ap (λ l. Some l) same.2)

      by : (t : Bool) (s : Shape) → S a ≡ Some s → S b ≡ Some s → Fits n s → (v : ℕ → ℤ) → ((j : ℕ) → j < n → (if t then V (C b j) else V (C a j)) ≡ Ok (v j ∷ [])) →
          (vs : Values) × ((if t then V b else V a) ≡ Ok vs) × ((j : ℕ) → j < n → value_at vs j ≡ v j)
      by true s p q f v h = other.values s q f v h
      by false s p q f v h = one.values s p f v h

  input_law : (k : ℕ) → Law (e.Input k)
  input_law k = by (inputs.shape k) refl
    where
      input_shape : (s : Shape) → S (e.Input k) ≡ Some s → inputs.shape k ≡ s
      input_shape s is = let e : Some (inputs.shape k) ≡ Some s = sym (shape_input inputs.shape k) ∙ is in cc

      by : (t : Shape) → inputs.shape k ≡ t → Law (e.Input k)
      by [] none = itself (e.Input k) (λ j. column_input inputs.shape j k ∙ ap (λ t. if is_single t then e.Input k else e.Part (e.Input k) j) none) (λ s is. sym (input_shape s is) ∙ none)
      by (m ∷ rest) some_extents = record {
        singles = λ s is f j below.
            ap S (column j) ∙ shape_part inputs.shape (e.Input k) j ∙ ap (with_one (λ y. single_if (has_part j y))) (shape_input inputs.shape k ∙ ap (λ l. Some l) (vector s is f))
            ∙ ap single_if (lt-ltb j n below);
        values = λ s is f v each_j.
            let at : (j : ℕ) → j < n → (V (e.Input k) >>= λ x. alone (slice_index_or x j (pos 0))) ≡ Ok (v j ∷ []) =
            λ j below. sym (value_part inputs item (e.Input k) j) ∙ sym (ap V (column j)) ∙ each_j j below in
            let r = made_of (V (e.Input k)) (λ x. alone (slice_index_or x 0 (pos 0))) (v 0 ∷ []) (at 0 (omega arith)) in
            let len : length r.0 ≡ n * 1 = value_count inputs item (e.Input k) (n ∷ []) r.0 (shape_input inputs.shape k ∙ ap (λ l. Some l) (vector s is f)) r.1 in
            (r.0, r.1, λ j below. own_place r.0 j (omega (arith, len, below)) ∙ alone_is (slice_index_or r.0 j (pos 0)) (v j) (sym (ap (λ (o : Outcome Values). o >>= λ x. alone (slice_index_or x j (pos 0))) r.1) ∙ at j below));
      }
        where
          column : (j : ℕ) → C (e.Input k) j ≡ e.Part (e.Input k) j
          column j = column_input inputs.shape j k ∙ ap (λ t. if is_single t then e.Input k else e.Part (e.Input k) j) some_extents

          vector : (s : Shape) → S (e.Input k) ≡ Some s → Fits n s → inputs.shape k ≡ n ∷ []
          vector s is (inl none) = let e : m ∷ rest ≡ [] = sym some_extents ∙ input_shape s is ∙ none in absurd cc
          vector s is (inr all) = input_shape s is ∙ all

  -- the parts of a vector, each of which has a value
  joined_all : (parts : List Expression) (v : ℕ → ℤ) → ((i : ℕ) → i < length parts → Has (V (part_at parts i)) (v i)) →
      (vs : Values) × (joined (map (value_of inputs item) parts) ≡ Ok vs) × (length vs ≡ length parts) × ((i : ℕ) → i < length parts → slice_index_or vs i (pos 0) ≡ v i)
  joined_all [] v h = ([], refl, refl, λ i below. absurd (omega arith))
  joined_all (a ∷ parts) v h =
      let rest = joined_all parts (λ i. v (suc i)) (λ i below. h (suc i) (omega arith)) in (
        v 0 ∷ rest.0,
        ap (λ (o : Outcome Values). o >>= λ x. joined (map (value_of inputs item) parts) >>= λ xs. Ok (x ++ xs)) (h 0 (omega arith)) ∙ ap (λ (o : Outcome Values). o >>= λ xs. Ok (v 0 ∷ xs)) rest.1,
        ap suc rest.2,
        places_of rest.0 rest.3,
      )
    where
      places_of : (ws : Values) → ((i : ℕ) → i < length parts → slice_index_or ws i (pos 0) ≡ v (suc i)) → (i : ℕ) → i < suc (length parts) → slice_index_or (v 0 ∷ ws) i (pos 0) ≡ v i
      places_of ws g zero below = refl
      places_of ws g (suc i) below = g i (omega arith)

  vector_law : (parts : List Expression) → Law (e.Vector parts)
  vector_law parts = record {
    singles = λ s is f j below. let fit = fits s is f in ap S (column_vector inputs.shape j parts) ∙ single_at inputs.shape parts j (e.Number 0) (omega (arith, fit.1, below)) fit.0;
    values = λ s is f v each_j.
        let fit = fits s is f in
        let r = joined_all parts v (λ i below. sym (ap V (column_vector inputs.shape i parts)) ∙ each_j i (omega (arith, fit.1, below))) in
        let len : length r.0 ≡ length parts = r.2 in
        (r.0, value_vector inputs item parts ∙ r.1, λ j below. own_place r.0 j (omega (arith, len, fit.1, below)) ∙ r.3 j (omega (arith, fit.1, below)));
  }
    where
      fits : (s : Shape) → S (e.Vector parts) ≡ Some s → Fits n s → (all_single (map (shape_of inputs.shape) parts) ≡ true) × (length parts ≡ n)
      fits s is f = by (all_single (map (shape_of inputs.shape) parts)) refl (sym (shape_vector inputs.shape parts) ∙ is) f
        where
          by : (t : Bool) → all_single (map (shape_of inputs.shape) parts) ≡ t → (if t then Some (length parts ∷ []) else None) ≡ Some s → Fits n s → (all_single (map (shape_of inputs.shape) parts) ≡ true) × (length parts ≡ n)
          by true fit h (inl none) = let e : length parts ∷ [] ≡ s = cc in let g : length parts ∷ [] ≡ [] = e ∙ none in absurd cc
          by true fit h (inr all) = let e : length parts ∷ [] ≡ s = cc in let g : length parts ∷ [] ≡ n ∷ [] = e ∙ all in let m : length parts ≡ n = cc in (fit, m)
          by false fit h f = absurd cc

  number_law : (m : ℕ) → Law (e.Number m)
  number_law m = itself (e.Number m) (λ j. column_number inputs.shape j m) (λ s is. let h : Some [] ≡ Some s = sym (shape_number inputs.shape m) ∙ is in let e : [] ≡ s = cc in sym e)

  part_law : (a : Expression) (k : ℕ) → Law (e.Part a k)
  part_law a k = itself (e.Part a k) (λ j. column_part inputs.shape j a k) (λ s is. by (S a) s (sym (shape_part inputs.shape a k) ∙ is))
    where
      by : (o : Option Shape) (s : Shape) → with_one (λ y. single_if (has_part k y)) o ≡ Some s → s ≡ []
      by None s h = absurd cc
      by (Some y) s h = no_extents (has_part k y) s h

  layer_law : (l : Expression-F Expression) → ((a : Expression) → nodes a < nodes (roll-Expression l) → Law a) → Law (roll-Expression l)
  layer_law (Expression-F.Number m) laws = subst Law (sym (rolls-Number m)) (number_law m)
  layer_law (Expression-F.Input k) laws = subst Law (sym (rolls-Input k)) (input_law k)
  layer_law (Expression-F.Unary o a) laws = subst Law (sym (rolls-Unary o a)) (unary_law o a (laws a (in_unary _ o a a (rolls-Unary o a) refl)))
  layer_law (Expression-F.Binary o a b) laws = subst Law (sym (rolls-Binary o a b)) (by_sides (sides_of o) o a b refl (laws a (in_left _ o a b a (rolls-Binary o a b) refl)) (laws b (in_right _ o a b b (rolls-Binary o a b) refl)))
  layer_law (Expression-F.Choice c a b) laws = subst Law (sym (rolls-Choice c a b)) (choice_law c a b (laws a (in_one _ c a b a (rolls-Choice c a b) refl)) (laws b (in_other _ c a b b (rolls-Choice c a b) refl)))
  layer_law (Expression-F.Part a k) laws = subst Law (sym (rolls-Part a k)) (part_law a k)
  layer_law (Expression-F.Vector parts) laws = subst Law (sym (rolls-Vector parts)) (vector_law parts)

  by_size : (m : ℕ) (x : Expression) → nodes x < m → Law x
  by_size zero x h = absurd (omega arith)
  by_size (suc m) x h = subst Law (roll-out-Expression x) (layer_law (out-Expression x) (λ a below. let g : nodes (roll-Expression (out-Expression x)) ≡ nodes x = ap nodes (roll-out-Expression x) in by_size m a (omega arith)))

-- a component is a single value
pub column_single : (inputs : Inputs) (n : ℕ) (x : Expression) → shape_of inputs.shape x ≡ Some (n ∷ []) → (j : ℕ) → j < n → shape_of inputs.shape (column inputs.shape j x) ≡ Some []
column_single inputs n x is j below = (by_size inputs 0 n (omega arith) (suc (nodes x)) x (omega arith)).singles (n ∷ []) is (inr refl) j below

-- where each component of an item has a value, the item has these values
pub column_values : (inputs : Inputs) (item n : ℕ) (x : Expression) → 1 ≤ n → shape_of inputs.shape x ≡ Some (n ∷ []) → (v : ℕ → ℤ) →
    ((j : ℕ) → j < n → value_of inputs item (column inputs.shape j x) ≡ Ok (v j ∷ [])) →
    (vs : Values) × (value_of inputs item x ≡ Ok vs) × (length vs ≡ n) × ((j : ℕ) → j < n → slice_index_or vs j (pos 0) ≡ v j)
column_values inputs item n x some is v each_j =
    let r = (by_size inputs item n some (suc (nodes x)) x (omega arith)).values (n ∷ []) is (inr refl) v each_j in
    let m : length r.0 ≡ n * 1 = value_count inputs item x (n ∷ []) r.0 is r.1 in
    let len : length r.0 ≡ n = omega arith in
    (r.0, r.1, len, λ j below. sym (own_place r.0 j (omega (arith, len, below))) ∙ r.2 j below)
