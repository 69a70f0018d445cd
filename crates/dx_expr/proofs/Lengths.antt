-- An item of an expression has as many values as its shape says.
use Rattle.std.proofs.Common.{◌≡◌, ℕ, zero, suc, ◌+◌, ◌*◌, ◌<◌, ℤ, pos, Bool, true, false, List, [], ◌∷◌, ◌++◌, ◌⊎◌, inl, inr, length, get_or, Option, Some, None, Ok, Err, refl, sym, ap, subst, ◌∙◌, length-append, arith}
use Rattle.std.specs.Prelude.{nat_eq, map, ◌==◌, ◌||◌, ◌&&◌, if◌then◌else◌, slice_index_or}
use Rattle.std.specs.List.{range_with_len}
use Rattle.std.specs.Cmp.Lexicographic.{pointwise}
use Rattle.std.proofs.lemmas.Bool.{eqb-true}
use Rattle.dx_expr_grammar.specs.declared.tree.Unary.{Unary}
use Rattle.dx_expr_grammar.specs.declared.tree.Unary.TheVariants as unary
use Rattle.dx_expr_grammar.specs.declared.tree.Binary.{Binary}
use Rattle.dx_expr_grammar.specs.declared.tree.Binary.TheVariants as binary
use Rattle.dx_expr_grammar.specs.declared.tree.Expression.{Expression, roll-Expression, out-Expression}
use Rattle.dx_expr_grammar.specs.declared.tree.Expression.TheViews.{roll-out-Expression}
use Rattle.dx_expr_grammar.specs.declared.tree.Expression.TheVariants as e
use Rattle.dx_expr_grammar.specs.declared.tree.Expression.TheVariants.{rolls-Number, rolls-Input, rolls-Unary, rolls-Binary, rolls-Choice, rolls-Part, rolls-Vector}
use Rattle.dx_expr_grammar.specs.declared.tree.Expression.TheOpen.{Expression-F}
use Rattle.dx_expr.specs.declared.operators.Sides.{Sides}
use Rattle.dx_expr.specs.declared.operators.Sides.TheVariants as sides
use Rattle.dx_expr.specs.Shape.{Shape, shape_of, unary_shape, binary_shape, choice_shape, beside, single_if, is_single, is_single_one, is_vector, same_shape, has_part, with_one, with_two, all_single}
use Rattle.dx_expr.specs.Value.{Inputs, Outcome, Values, value_of, values_by, sides_of, side_by_side, places, dot_product, decided, joined, size, each, checked, alone, is_zero, the_value, unary_value, binary_value, value_at, dot_from, ◌>>=◌}
use Rattle.dx_expr.proofs.Fitting.{both_true, single_is, single_one}
use Rattle.dx_expr.proofs.Nodes.{nodes, in_unary, in_left, in_right, in_one, in_other, in_vector, in_parts}
use Rattle.dx_expr.proofs.Equations.{value_number, value_input, value_unary, value_binary, value_choice, value_part, value_vector, shape_number, shape_input, shape_unary, shape_binary, shape_choice, shape_part, shape_vector}

-- ---- lists of values

-- a value that another is made of
made_of : {A B : Type 0} (o : Outcome A) (f : A → Outcome B) (b : B) → (o >>= f) ≡ Ok b → (a : A) × (o ≡ Ok a) × (f a ≡ Ok b)
made_of (Ok a) f b h = (a, refl, h)
made_of (Err fault) f b h = absurd cc

alone_one : (v : ℤ) (vs : Values) → alone v ≡ Ok vs → length vs ≡ 1
alone_one v vs h = let e : v ∷ [] ≡ vs = cc in sym (ap length e)

each_length : {A : Type 0} (f : A → Outcome ℤ) (l : List A) (vs : Values) → each f l ≡ Ok vs → length vs ≡ length l
each_length f [] vs h = let e : [] ≡ vs = cc in sym (ap length e)
each_length f (a ∷ rest) vs h =
    let v = made_of (f a) (λ v. each f rest >>= λ more. Ok (v ∷ more)) vs h in
    let more = made_of (each f rest) (λ more. Ok (v.0 ∷ more)) vs v.2 in
    let e : v.0 ∷ more.0 ≡ vs = let h = more.2 in cc in
    let n = each_length f rest more.0 more.1 in
    omega (arith, n, ap length e)

range_length : (a n : ℕ) → length (range_with_len a n) ≡ n
range_length a zero = refl
range_length a (suc n) = ap suc (range_length (a + 1) n)

-- ---- shapes

single_size : (t : Bool) (s : Shape) → single_if t ≡ Some s → size s ≡ 1
single_size true s h = let e : [] ≡ s = cc in sym (ap size e)
single_size false s h = absurd cc

same_shapes : (a b : Shape) → same_shape a b ≡ true → a ≡ b
same_shapes [] [] h = refl
same_shapes [] (n ∷ b) h = absurd cc
same_shapes (n ∷ a) [] h = absurd cc
same_shapes (n ∷ a) (m ∷ b) h =
    let t = both_true (nat_eq n m) (pointwise nat_eq a b) h in
    let e : n ≡ m = eqb-true n m t.0 in
    let f = same_shapes a b t.1 in
    cc

no_extents : (a : Shape) → is_single a ≡ true → size a ≡ 1
no_extents a h = ap size (single_is a h)

unary_size : (o : Unary) (a s : Shape) → unary_shape o a ≡ Some s → size s ≡ size a
unary_size unary.Negate a s h = let e : a ≡ s = cc in sym (ap size e)
unary_size unary.Not [] s h = single_size true s h
unary_size unary.Not (n ∷ a) s h = absurd cc
unary_size unary.Absolute a s h = let e : a ≡ s = cc in sym (ap size e)
unary_size unary.Sign a s h = let e : a ≡ s = cc in sym (ap size e)

-- the values of both sides, of which the shape has as many
abbrev Sized : Shape → Shape → Shape → Type 0
Sized a b s = (x y : Values) → length x ≡ size a → length y ≡ size b → places x y ≡ size s

differs : (n : ℕ) → n ≡ 1 → (n == 1) ≡ false → ⊥
differs n f e = let g : (1 == 1) ≡ false = ap (λ n. n == 1) (sym f) ∙ e in cc

places_of : (x y : Values) (n m k : ℕ) → length x ≡ n → length y ≡ m → ((n ≡ 1) × (m ≡ k)) ⊎ ((n ≡ k) × ((m ≡ 1) ⊎ (m ≡ n))) → places x y ≡ k
places_of x y n m k p q h = by (length x == 1) refl h
  where
    by : (t : Bool) → (length x == 1) ≡ t → ((n ≡ 1) × (m ≡ k)) ⊎ ((n ≡ k) × ((m ≡ 1) ⊎ (m ≡ n))) → (if t then length y else length x) ≡ k
    by true e (inl g) = q ∙ g.1
    by true e (inr (g, inl one)) = let f : length x ≡ 1 = eqb-true (length x) 1 e in omega arith
    by true e (inr (g, inr same)) = let f : length x ≡ 1 = eqb-true (length x) 1 e in omega arith
    by false e (inl g) = let f : length x ≡ 1 = p ∙ g.0 in absurd (differs (length x) f e)
    by false e (inr g) = p ∙ g.0

beside_sized : (a b s : Shape) → beside a b ≡ Some s → Sized a b s
beside_sized a b s h x y p q = by (is_single a) (is_single b) (same_shape a b) refl refl refl h
  where
    by : (t u v : Bool) → is_single a ≡ t → is_single b ≡ u → same_shape a b ≡ v → (if t then Some b else (if u || v then Some a else None)) ≡ Some s → places x y ≡ size s
    by true u v is_t is_u is_v h = let e : b ≡ s = cc in places_of x y (size a) (size b) (size s) p q (inl (no_extents a is_t, ap size e))
    by false true v is_t is_u is_v h = let e : a ≡ s = cc in places_of x y (size a) (size b) (size s) p q (inr (ap size e, inl (no_extents b is_u)))
    by false false true is_t is_u is_v h = let e : a ≡ s = cc in places_of x y (size a) (size b) (size s) p q (inr (ap size e, inr (sym (ap size (same_shapes a b is_v)))))
    by false false false is_t is_u is_v h = absurd cc

singles_sized : (a b s : Shape) → single_if (is_single a && is_single b) ≡ Some s → Sized a b s
singles_sized a b s h x y p q = by (is_single a) (is_single b) refl refl h
  where
    by : (t u : Bool) → is_single a ≡ t → is_single b ≡ u → single_if (t && u) ≡ Some s → places x y ≡ size s
    by true true is_t is_u h = places_of x y (size a) (size b) (size s) p q (inl (no_extents a is_t, no_extents b is_u ∙ sym (single_size true s h)))
    by true false is_t is_u h = absurd cc
    by false u is_t is_u h = absurd cc

both_sized : (o : Binary) (a b s : Shape) → sides_of o ≡ sides.Both → binary_shape o a b ≡ Some s → Sized a b s
both_sized binary.Or a b s k h = absurd cc
both_sized binary.And a b s k h = absurd cc
both_sized binary.Dot a b s k h = absurd cc
both_sized binary.Equal a b s k h = singles_sized a b s h
both_sized binary.NotEqual a b s k h = singles_sized a b s h
both_sized binary.Less a b s k h = singles_sized a b s h
both_sized binary.LessEqual a b s k h = singles_sized a b s h
both_sized binary.Greater a b s k h = singles_sized a b s h
both_sized binary.GreaterEqual a b s k h = singles_sized a b s h
both_sized _ a b s k h = beside_sized a b s h

-- an operator that isn't by value gives a single value
other_size : (o : Binary) (a b s : Shape) → (sides_of o ≡ sides.Both → ⊥) → binary_shape o a b ≡ Some s → size s ≡ 1
other_size binary.Or a b s k h = single_size (is_single a && is_single b) s h
other_size binary.And a b s k h = single_size (is_single a && is_single b) s h
other_size binary.Dot a b s k h = single_size (is_vector a && same_shape a b) s h
other_size _ a b s k h = absurd (k refl)

-- ---- values

module _ (inputs : Inputs) (item : ℕ) where
  abbrev V : Expression → Outcome Values
  V a = value_of inputs item a

  abbrev S : Expression → Option Shape
  S a = shape_of inputs.shape a

  -- as many values as the shape says
  pub record Law (x : Expression) : Type 0 where
    pub counts : (s : Shape) (vs : Values) → S x ≡ Some s → V x ≡ Ok vs → length vs ≡ size s

  shape_from : (f : Shape → Option Shape) (o : Option Shape) (s : Shape) → with_one f o ≡ Some s → (a : Shape) × (o ≡ Some a) × (f a ≡ Some s)
  shape_from f None s h = absurd cc
  shape_from f (Some a) s h = (a, refl, h)

  number : (n : ℕ) → Law (e.Number n)
  number n = record {
    counts = λ s vs p q.
        let r = made_of (checked (pos n)) alone vs (sym (value_number inputs item n) ∙ q) in
        let g : Some [] ≡ Some s = sym (shape_number inputs.shape n) ∙ p in
        let f : [] ≡ s = cc in
        alone_one r.0 vs r.2 ∙ ap size f;
  }

  input : (k : ℕ) → Law (e.Input k)
  input k = record {
    counts = λ s vs p q.
        let g : Some (inputs.shape k) ≡ Some s = sym (shape_input inputs.shape k) ∙ p in
        let f : inputs.shape k ≡ s = cc in
        each_length (λ place. checked (inputs.value k item place)) (range_with_len 0 (size (inputs.shape k))) vs (sym (value_input inputs item k) ∙ q) ∙ range_length 0 (size (inputs.shape k)) ∙ ap size f;
  }

  unary_law : (o : Unary) (a : Expression) → Law a → Law (e.Unary o a)
  unary_law o a law = record {
    counts = λ s vs p q.
        let r = made_of (V a) (each (unary_value o)) vs (sym (value_unary inputs item o a) ∙ q) in
        let t = shape_from (unary_shape o) (S a) s (sym (shape_unary inputs.shape o a) ∙ p) in
        each_length (unary_value o) r.0 vs r.2 ∙ law.counts t.0 r.0 t.1 r.1 ∙ sym (unary_size o t.0 s t.2);
  }

  by_sides : (k : Sides) (o : Binary) (a b : Expression) → Law a → Law b → sides_of o ≡ k → Law (e.Binary o a b)
  by_sides k o a b left right is = record {
    counts = λ s vs p q.
        let t = shape_from (λ x. with_one (binary_shape o x) (S b)) (S a) s (sym (shape_binary inputs.shape o a b) ∙ p) in
        let u = shape_from (binary_shape o t.0) (S b) s t.2 in
        let h : values_by k o (V a) (V b) ≡ Ok vs = ap (λ k. values_by k o (V a) (V b)) (sym is) ∙ sym (value_binary inputs item o a b) ∙ q in
        by k is t.0 u.0 t.1 u.1 s u.2 vs h;
  }
    where
      decides : (vs : Values) → (V b >>= decided) ≡ Ok vs → length vs ≡ 1
      decides vs g = let r = made_of (V b) decided vs g in alone_one _ vs r.2

      unless : (t : Bool) (vs : Values) → (if t then (V b >>= decided) else alone (pos 1)) ≡ Ok vs → length vs ≡ 1
      unless true vs g = decides vs g
      unless false vs g = alone_one (pos 1) vs g

      if_true : (t : Bool) (vs : Values) → (if t then alone (pos 0) else (V b >>= decided)) ≡ Ok vs → length vs ≡ 1
      if_true true vs g = alone_one (pos 0) vs g
      if_true false vs g = decides vs g

      by : (k : Sides) → sides_of o ≡ k → (x y : Shape) → S a ≡ Some x → S b ≡ Some y → (s : Shape) → binary_shape o x y ≡ Some s → (vs : Values) → values_by k o (V a) (V b) ≡ Ok vs → length vs ≡ size s
      by sides.UnlessTrue is x y p q s h vs g =
          let r = made_of (V a) (λ x. if is_zero (the_value x) then (V b >>= decided) else alone (pos 1)) vs g in
          unless (is_zero (the_value r.0)) vs r.2 ∙ sym (other_size o x y s (λ both. let e : sides.UnlessTrue ≡ sides.Both = sym is ∙ both in cc) h)
      by sides.IfTrue is x y p q s h vs g =
          let r = made_of (V a) (λ x. if is_zero (the_value x) then alone (pos 0) else (V b >>= decided)) vs g in
          if_true (is_zero (the_value r.0)) vs r.2 ∙ sym (other_size o x y s (λ both. let e : sides.IfTrue ≡ sides.Both = sym is ∙ both in cc) h)
      by sides.Vectors is x y p q s h vs g =
          let r = made_of (V a) (λ x. V b >>= λ y. dot_product x y) vs g in
          let l = made_of (V b) (dot_product r.0) vs r.2 in
          let d = made_of (dot_from r.0 l.0 (pos 0) (range_with_len 0 (length r.0))) alone vs l.2 in
          alone_one d.0 vs d.2 ∙ sym (other_size o x y s (λ both. let e : sides.Vectors ≡ sides.Both = sym is ∙ both in cc) h)
      by sides.Both is x y p q s h vs g =
          let r = made_of (V a) (λ x. V b >>= λ y. side_by_side (binary_value o) x y) vs g in
          let l = made_of (V b) (side_by_side (binary_value o) r.0) vs r.2 in
          each_length (λ i. binary_value o (value_at r.0 i) (value_at l.0 i)) (range_with_len 0 (places r.0 l.0)) vs l.2 ∙ range_length 0 (places r.0 l.0)
          ∙ both_sized o x y s is h r.0 l.0 (left.counts x r.0 p r.1) (right.counts y l.0 q l.1)

  choice_shapes : (z x y s : Shape) → choice_shape z x y ≡ Some s → (x ≡ s) × (y ≡ s)
  choice_shapes z x y s h = by (is_single z) (same_shape x y) refl h
    where
      by : (t v : Bool) → same_shape x y ≡ v → (if t && v then Some x else None) ≡ Some s → (x ≡ s) × (y ≡ s)
      by true true same h = let e : x ≡ s = cc in (e, sym (same_shapes x y same) ∙ e)
      by true false same h = absurd cc
      by false v same h = absurd cc

  choice_law : (c a b : Expression) → Law a → Law b → Law (e.Choice c a b)
  choice_law c a b one other = record {
    counts = λ s vs p q.
        let t = shape_from (λ z. with_two (choice_shape z) (S a) (S b)) (S c) s (sym (shape_choice inputs.shape c a b) ∙ p) in
        let u = shape_from (λ x. with_one (choice_shape t.0 x) (S b)) (S a) s t.2 in
        let w = shape_from (choice_shape t.0 u.0) (S b) s u.2 in
        let same = choice_shapes t.0 u.0 w.0 s w.2 in
        let r = made_of (V c) (λ x. if is_zero (the_value x) then V b else V a) vs (sym (value_choice inputs item c a b) ∙ q) in
        by (is_zero (the_value r.0)) s (u.1 ∙ ap (λ l. Some l) same.0) (w.1 ∙ ap (λ l. Some l) same.1) vs r.2;
  }
    where
      by : (t : Bool) (s : Shape) → S a ≡ Some s → S b ≡ Some s → (vs : Values) → (if t then V b else V a) ≡ Ok vs → length vs ≡ size s
      by true s p q vs h = other.counts s vs q h
      by false s p q vs h = one.counts s vs p h

  part_law : (a : Expression) (k : ℕ) → Law (e.Part a k)
  part_law a k = record {
    counts = λ s vs p q.
        let t = shape_from (λ y. single_if (has_part k y)) (S a) s (sym (shape_part inputs.shape a k) ∙ p) in
        let r = made_of (V a) (λ x. alone (slice_index_or x k (pos 0))) vs (sym (value_part inputs item a k) ∙ q) in
        alone_one _ vs r.2 ∙ sym (single_size (has_part k t.0) s t.2);
  }

  -- the parts of a vector, each of which is a single value
  all_counts : (parts : List Expression) → ((i : ℕ) (d : Expression) → i < length parts → Law (get_or parts i d)) → all_single (map (shape_of inputs.shape) parts) ≡ true → (vs : Values) → joined (map (value_of inputs item) parts) ≡ Ok vs → length vs ≡ length parts
  all_counts [] laws fit vs h = let e : [] ≡ vs = cc in sym (ap length e)
  all_counts (a ∷ parts) laws fit vs h =
      let r = made_of (V a) (λ x. joined (map (value_of inputs item) parts) >>= λ xs. Ok (x ++ xs)) vs h in
      let l = made_of (joined (map (value_of inputs item) parts)) (λ xs. Ok (r.0 ++ xs)) vs r.2 in
      let f = both_true (is_single_one (S a)) (all_single (map (shape_of inputs.shape) parts)) fit in
      let one : length r.0 ≡ 1 = (laws 0 a (omega arith)).counts [] r.0 (single_one (S a) f.0) r.1 in
      let rest = all_counts parts (λ i d below. laws (suc i) d (omega arith)) f.1 l.0 l.1 in
      let e : r.0 ++ l.0 ≡ vs = let g = l.2 in cc in
      omega (arith, one, rest, ap length e, length-append r.0 l.0)

  vector_law : (parts : List Expression) → ((i : ℕ) (d : Expression) → i < length parts → Law (get_or parts i d)) → Law (e.Vector parts)
  vector_law parts laws = record {
    counts = λ s vs p q.
        by (all_single (map (shape_of inputs.shape) parts)) refl s (sym (shape_vector inputs.shape parts) ∙ p) vs (sym (value_vector inputs item parts) ∙ q);
  }
    where
      by : (t : Bool) → all_single (map (shape_of inputs.shape) parts) ≡ t → (s : Shape) → (if t then Some (length parts ∷ []) else None) ≡ Some s → (vs : Values) → joined (map (value_of inputs item) parts) ≡ Ok vs → length vs ≡ size s
      by true fit s p vs q = let e : length parts ∷ [] ≡ s = cc in all_counts parts laws fit vs q ∙ (let n : length parts ≡ length parts * 1 = omega arith in n) ∙ ap size e
      by false fit s p vs q = absurd cc

  -- of a kind of expression, by its parts
  layer_law : (l : Expression-F Expression) → ((a : Expression) → nodes a < nodes (roll-Expression l) → Law a) → Law (roll-Expression l)
  layer_law (Expression-F.Number n) laws = subst Law (sym (rolls-Number n)) (number n)
  layer_law (Expression-F.Input k) laws = subst Law (sym (rolls-Input k)) (input k)
  layer_law (Expression-F.Unary o a) laws = subst Law (sym (rolls-Unary o a)) (unary_law o a (laws a (in_unary _ o a a (rolls-Unary o a) refl)))
  layer_law (Expression-F.Binary o a b) laws = subst Law (sym (rolls-Binary o a b)) (by_sides (sides_of o) o a b (laws a (in_left _ o a b a (rolls-Binary o a b) refl)) (laws b (in_right _ o a b b (rolls-Binary o a b) refl)) refl)
  layer_law (Expression-F.Choice c a b) laws = subst Law (sym (rolls-Choice c a b)) (choice_law c a b (laws a (in_one _ c a b a (rolls-Choice c a b) refl)) (laws b (in_other _ c a b b (rolls-Choice c a b) refl)))
  layer_law (Expression-F.Part a k) laws = subst Law (sym (rolls-Part a k)) (part_law a k)
  layer_law (Expression-F.Vector parts) laws = subst Law (sym (rolls-Vector parts)) (vector_law parts (λ i d below.
      let h = in_parts parts i d (get_or parts i d) below refl in
      let g = in_vector (roll-Expression (Expression-F.Vector parts)) parts parts (rolls-Vector parts) refl in
      laws (get_or parts i d) (omega arith)))

  by_size : (n : ℕ) (x : Expression) → nodes x < n → Law x
  by_size zero x h = absurd (omega arith)
  by_size (suc n) x h = subst Law (roll-out-Expression x) (layer_law (out-Expression x) (λ a below. let g : nodes (roll-Expression (out-Expression x)) ≡ nodes x = ap nodes (roll-out-Expression x) in by_size n a (omega arith)))

-- an item has as many values as the shape says
pub value_count : (inputs : Inputs) (item : ℕ) (x : Expression) (s : Shape) (vs : Values) → shape_of inputs.shape x ≡ Some s → value_of inputs item x ≡ Ok vs → length vs ≡ size s
value_count inputs item x s vs p q = (by_size inputs item (suc (nodes x)) x (omega arith)).counts s vs p q
