-- Where an expression with components in place of vectors has values, the expression with the vectors has the same.
use Rattle.std.proofs.Common.{◌≡◌, ℕ, zero, suc, ◌+◌, ◌<◌, ◌≤◌, ℤ, pos, Bool, true, false, List, [], ◌∷◌, ◌++◌, length, Option, Some, None, Result, Ok, Err, refl, sym, ap, subst, ◌∙◌, arith}
use Rattle.std.specs.Prelude.{IfOk, ◌==◌, if◌then◌else◌, slice_index_or, nat_lt, ◌+ℤ◌, ◌*ℤ◌}
use Rattle.std.specs.List.{range_with_len}
use Rattle.std.proofs.Math.IntN.{*ℤ-zero, +ℤ_idr}
use Rattle.std.proofs.lemmas.Bool.{eqb-true, ltb-true, ltb-false}
use Rattle.dx_expr_grammar.specs.declared.tree.Unary.{Unary}
use Rattle.dx_expr_grammar.specs.declared.tree.Binary.{Binary}
use Rattle.dx_expr_grammar.specs.declared.tree.Binary.TheVariants as binary
use Rattle.dx_expr_grammar.specs.declared.tree.Expression.{Expression}
use Rattle.dx_expr_grammar.specs.declared.tree.Expression.TheVariants as e
use Rattle.dx_expr.specs.declared.operators.Sides.{Sides}
use Rattle.dx_expr.specs.declared.operators.Sides.TheVariants as sides
use Rattle.dx_expr.specs.Shape.{Shape, shape_of, binary_shape, with_one, with_two}
use Rattle.dx_expr.specs.Value.{Inputs, Outcome, Values, value_of, values_by, sides_of, each, checked, is_int, alone, is_zero, the_value, decided, unary_value, binary_value, value_at, with_product, dot_from, dot_product, ◌>>=◌}
use Rattle.dx_expr.proofs.Lengths.{value_count}
use Rattle.dx_expr.proofs.Equations.{value_number, value_unary, value_binary, value_choice, value_part, shape_number, shape_binary}
use Rattle.dx_expr_columns.specs.Columns.{column}
use Rattle.dx_expr_columns.specs.Scalars.{HasValuesOf, sum_of_products, component_beside}
use Rattle.dx_expr_columns.proofs.Columns.{IsOne, Has, got, made_of, both_one, same_one, own_place, column_single, column_values}

-- ---- parts

-- what is made of an outcome is made of one that has the same values
along : {A B : Type 0} (o p : Outcome A) (f : A → Outcome B) (b : B) → ((a : A) → o ≡ Ok a → p ≡ Ok a) → (o >>= f) ≡ Ok b → (p >>= f) ≡ Ok b
along o p f b has h = let r = made_of o f b h in ap (λ x. x >>= f) (has r.0 r.1) ∙ r.2

abbrev Same : Outcome Values → Outcome Values → Type 0
Same o p = (vs : Values) → o ≡ Ok vs → p ≡ Ok vs

along_if : (t : Bool) (o p o' p' : Outcome Values) (vs : Values) → Same o o' → Same p p' → (if t then o else p) ≡ Ok vs → (if t then o' else p') ≡ Ok vs
along_if true o p o' p' vs f g h = f vs h
along_if false o p o' p' vs f g h = g vs h

along_sides : (k : Sides) (o : Binary) (a b a' b' : Outcome Values) → Same a a' → Same b b' → (vs : Values) → values_by k o a b ≡ Ok vs → values_by k o a' b' ≡ Ok vs
along_sides sides.UnlessTrue o a b a' b' f g vs h =
    let r = made_of a (λ x. if is_zero (the_value x) then b >>= decided else alone (pos 1)) vs h in
    ap (λ (p : Outcome Values). p >>= λ x. if is_zero (the_value x) then b' >>= decided else alone (pos 1)) (f r.0 r.1)
    ∙ along_if (is_zero (the_value r.0)) (b >>= decided) (alone (pos 1)) (b' >>= decided) (alone (pos 1)) vs (λ ws l. along b b' decided ws g l) (λ ws l. l) r.2
along_sides sides.IfTrue o a b a' b' f g vs h =
    let r = made_of a (λ x. if is_zero (the_value x) then alone (pos 0) else b >>= decided) vs h in
    ap (λ (p : Outcome Values). p >>= λ x. if is_zero (the_value x) then alone (pos 0) else b' >>= decided) (f r.0 r.1)
    ∙ along_if (is_zero (the_value r.0)) (alone (pos 0)) (b >>= decided) (alone (pos 0)) (b' >>= decided) vs (λ ws l. l) (λ ws l. along b b' decided ws g l) r.2
along_sides sides.Vectors o a b a' b' f g vs h =
    let r = made_of a (λ x. b >>= λ y. dot_product x y) vs h in
    ap (λ (p : Outcome Values). p >>= λ x. b' >>= λ y. dot_product x y) (f r.0 r.1) ∙ along b b' (λ y. dot_product r.0 y) vs g r.2
along_sides sides.Both o a b a' b' f g vs h =
    let side : Values → Values → Outcome Values = Rattle.dx_expr.specs.Value.side_by_side (binary_value o) in
    let r = made_of a (λ x. b >>= λ y. side x y) vs h in
    ap (λ (p : Outcome Values). p >>= λ x. b' >>= λ y. side x y) (f r.0 r.1) ∙ along b b' (λ y. side r.0 y) vs g r.2

pub unary_has : (inputs : Inputs) (o : Unary) (a a' : Expression) → HasValuesOf inputs a a' → HasValuesOf inputs (e.Unary o a) (e.Unary o a')
unary_has inputs o a a' has item vs h = value_unary inputs item o a' ∙ along (value_of inputs item a) (value_of inputs item a') (each (unary_value o)) vs (has item) (sym (value_unary inputs item o a) ∙ h)

pub binary_has : (inputs : Inputs) (o : Binary) (a b a' b' : Expression) → HasValuesOf inputs a a' → HasValuesOf inputs b b' → HasValuesOf inputs (e.Binary o a b) (e.Binary o a' b')
binary_has inputs o a b a' b' f g item vs h =
    value_binary inputs item o a' b'
    ∙ along_sides (sides_of o) o (value_of inputs item a) (value_of inputs item b) (value_of inputs item a') (value_of inputs item b') (f item) (g item) vs (sym (value_binary inputs item o a b) ∙ h)

pub choice_has : (inputs : Inputs) (c a b c' a' b' : Expression) → HasValuesOf inputs c c' → HasValuesOf inputs a a' → HasValuesOf inputs b b' → HasValuesOf inputs (e.Choice c a b) (e.Choice c' a' b')
choice_has inputs c a b c' a' b' d f g item vs h =
    let V : Expression → Outcome Values = value_of inputs item in
    let r = made_of (V c) (λ x. if is_zero (the_value x) then V b else V a) vs (sym (value_choice inputs item c a b) ∙ h) in
    value_choice inputs item c' a' b' ∙ ap (λ (p : Outcome Values). p >>= λ x. if is_zero (the_value x) then V b' else V a') (d item r.0 r.1)
    ∙ along_if (is_zero (the_value r.0)) (V b) (V a) (V b') (V a') vs (g item) (f item) r.2

-- ---- scalar products

checked_is : (v w : ℤ) → checked v ≡ Ok w → v ≡ w
checked_is v w h = by (is_int v) h
  where
    by : (t : Bool) → (let o : Outcome ℤ = if t then Ok v else Err Rattle.dx_expr.specs.declared.fault.ItemFault.TheVariants.Overflow in o ≡ Ok w) → v ≡ w
    by true h = cc
    by false h = absurd cc

times_zero : (v : ℤ) → v *ℤ pos 0 ≡ pos 0
times_zero v = *ℤ-zero v

plus_zero : (v : ℤ) → v +ℤ pos 0 ≡ v
plus_zero v = +ℤ_idr v

range_more : (from n : ℕ) → range_with_len from (suc n) ≡ range_with_len from n ++ (from + n) ∷ []
range_more from zero = ap (λ k. k ∷ []) (let z : from ≡ from + 0 = omega arith in z)
range_more from (suc n) = ap (λ l. from ∷ l) (range_more (from + 1) n ∙ ap (λ k. range_with_len (from + 1) n ++ k ∷ []) (let z : from + 1 + n ≡ from + suc n = omega arith in z))

dot_more : (x y : Values) (sum : ℤ) (l : List ℕ) (i : ℕ) → dot_from x y sum (l ++ i ∷ []) ≡ (dot_from x y sum l >>= with_product (value_at x i) (value_at y i))
dot_more x y sum [] i = last (with_product (value_at x i) (value_at y i) sum)
  where
    last : (o : Outcome ℤ) → (o >>= λ more. dot_from x y more []) ≡ o
    last (Ok v) = refl
    last (Err fault) = refl
dot_more x y sum (j ∷ l) i = by (λ v. dot_more x y v l i) (with_product (value_at x j) (value_at y j) sum)
  where
    by : ((v : ℤ) → dot_from x y v (l ++ i ∷ []) ≡ (dot_from x y v l >>= with_product (value_at x i) (value_at y i))) →
        (o : Outcome ℤ) → (o >>= λ more. dot_from x y more (l ++ i ∷ [])) ≡ ((o >>= λ more. dot_from x y more l) >>= with_product (value_at x i) (value_at y i))
    by more (Ok v) = more v
    by more (Err fault) = refl

-- what holds of each number before one, and of it
before_or_last : (Q : ℕ → Type 0) (i : ℕ) → ((j : ℕ) → j < i → Q j) → Q i → (j : ℕ) → j < suc i → Q j
before_or_last Q i each last j below = by (nat_lt j i) refl
  where
    by : (t : Bool) → nat_lt j i ≡ t → Q j
    by true is = each j (ltb-true j i is)
    by false is = let le : i ≤ j = ltb-false j i is in let same : i ≡ j = omega (arith, le, below) in subst Q same last

module _ (inputs : Inputs) (item : ℕ) where
  abbrev V : Expression → Outcome Values
  V x = value_of inputs item x

  abbrev S : Expression → Option Shape
  S x = shape_of inputs.shape x

  abbrev C : Expression → ℕ → Expression
  C a j = column inputs.shape j a

  abbrev Single : Expression → Type 0
  Single x = S x ≡ Some []

  is_one : (x : Expression) → Single x → IsOne (V x)
  is_one x is vs h = value_count inputs item x [] vs is h

  -- an operator that looks at both its sides, beside single values
  module _ (o : Binary) (k : sides_of o ≡ sides.Both) (fits : binary_shape o [] [] ≡ Some []) (x y : Expression) (left : Single x) (right : Single y) where
    both_single : Single (e.Binary o x y)
    both_single = shape_binary inputs.shape o x y ∙ ap (λ s. with_two (binary_shape o) s (S y)) left ∙ ap (with_one (binary_shape o [])) right ∙ fits

    both_made : (w : ℤ) → Has (V (e.Binary o x y)) w → Has (V x) (got (V x)) × Has (V y) (got (V y)) × (binary_value o (got (V x)) (got (V y)) ≡ Ok w)
    both_made w h = both_one (binary_value o) (V x) (V y) w (is_one x left) (is_one y right) (sym (value_binary inputs item o x y ∙ ap (λ s. values_by s o (V x) (V y)) k) ∙ h)

  product_single : (x y : Expression) → Single x → Single y → Single (e.Binary binary.Multiply x y)
  product_single = both_single binary.Multiply refl refl

  sum_single : (x y : Expression) → Single x → Single y → Single (e.Binary binary.Add x y)
  sum_single = both_single binary.Add refl refl

  module _ (a b : Expression) (n : ℕ) (of_a : S a ≡ Some (n ∷ [])) (of_b : S b ≡ Some (n ∷ [])) where
    abbrev P : ℕ → Expression
    P i = sum_of_products inputs.shape i a b

    abbrev x_at : ℕ → ℤ
    x_at j = got (V (C a j))

    abbrev y_at : ℕ → ℤ
    y_at j = got (V (C b j))

    one_product : (i : ℕ) → i < n → Single (e.Binary binary.Multiply (C a i) (C b i))
    one_product i below = product_single (C a i) (C b i) (column_single inputs n a of_a i below) (column_single inputs n b of_b i below)

    sum_is_single : (i : ℕ) → i ≤ n → Single (P i)
    sum_is_single zero le = shape_number inputs.shape 0
    sum_is_single (suc i) le = sum_single (P i) (e.Binary binary.Multiply (C a i) (C b i)) (sum_is_single i (omega (arith, le))) (one_product i (omega (arith, le)))

    -- the sum of the first products, so many
    abbrev dots : ℕ → Outcome ℤ
    dots zero = Ok (pos 0)
    dots (suc i) = dots i >>= with_product (x_at i) (y_at i)

    record Reached (i : ℕ) (w : ℤ) : Type 0 where
      pub xs : (j : ℕ) → j < i → Has (V (C a j)) (x_at j)
      pub ys : (j : ℕ) → j < i → Has (V (C b j)) (y_at j)
      pub sum : dots i ≡ Ok w

    reached : (i : ℕ) → i ≤ n → (w : ℤ) → Has (V (P i)) w → Reached i w
    reached zero le w h = record {
      xs = λ j below. absurd (omega arith);
      ys = λ j below. absurd (omega arith);
      sum = let g : (let o : Outcome Values = Ok (pos 0 ∷ []) in o ≡ Ok (w ∷ [])) = sym (value_number inputs item 0) ∙ h in cc;
    }
    reached (suc i) le w h =
        let m = e.Binary binary.Multiply (C a i) (C b i) in
        let below : i < n = omega (arith, le) in
        let r = both_made binary.Add refl refl (P i) m (sum_is_single i (omega (arith, le))) (one_product i below) w h in
        let s = both_made binary.Multiply refl refl (C a i) (C b i) (column_single inputs n a of_a i below) (column_single inputs n b of_b i below) (got (V m)) r.1 in
        let before = reached i (omega (arith, le)) (got (V (P i))) r.0 in
        record {
          xs = before_or_last (λ j. Has (V (C a j)) (x_at j)) i before.xs s.0;
          ys = before_or_last (λ j. Has (V (C b j)) (y_at j)) i before.ys s.1;
          sum = ap (λ (o : Outcome ℤ). o >>= with_product (x_at i) (y_at i)) before.sum ∙ ap (λ (o : Outcome ℤ). o >>= λ p. checked (got (V (P i)) +ℤ p)) s.2 ∙ r.2;
        }

    dots_are : (xs ys : Values) (i : ℕ) → ((j : ℕ) → j < i → value_at xs j ≡ x_at j) → ((j : ℕ) → j < i → value_at ys j ≡ y_at j) → dot_from xs ys (pos 0) (range_with_len 0 i) ≡ dots i
    dots_are xs ys zero f g = refl
    dots_are xs ys (suc i) f g =
        ap (dot_from xs ys (pos 0)) (range_more 0 i ∙ ap (λ k. range_with_len 0 i ++ k ∷ []) (let z : 0 + i ≡ i = omega arith in z))
        ∙ dot_more xs ys (pos 0) (range_with_len 0 i) i
        ∙ ap (λ o. o >>= with_product (value_at xs i) (value_at ys i)) (dots_are xs ys i (λ j below. f j (omega (arith, below))) (λ j below. g j (omega (arith, below))))
        ∙ ap (λ v. dots i >>= with_product v (value_at ys i)) (f i (omega arith)) ∙ ap (λ v. dots i >>= with_product (x_at i) v) (g i (omega arith))

    products_value : 1 ≤ n → (vs : Values) → V (P n) ≡ Ok vs → V (e.Binary binary.Dot a b) ≡ Ok vs
    products_value some [] h = absurd (omega (arith, is_one (P n) (sum_is_single n (omega arith)) [] h))
    products_value some (v ∷ w ∷ vs) h = absurd (omega (arith, is_one (P n) (sum_is_single n (omega arith)) (v ∷ w ∷ vs) h))
    products_value some (w ∷ []) h =
        let r = reached n (omega arith) w h in
        let xs = column_values inputs item n a some of_a x_at r.xs in
        let ys = column_values inputs item n b some of_b y_at r.ys in
        let lx : length xs.0 ≡ n = xs.2 in
        let ly : length ys.0 ≡ n = ys.2 in
        value_binary inputs item binary.Dot a b
        ∙ ap (λ (o : Outcome Values). o >>= λ x. V b >>= λ y. dot_product x y) xs.1 ∙ ap (λ (o : Outcome Values). o >>= λ y. dot_product xs.0 y) ys.1
        ∙ ap (λ k. dot_from xs.0 ys.0 (pos 0) (range_with_len 0 k) >>= alone) lx
        ∙ ap (λ (o : Outcome ℤ). o >>= alone)
        (dots_are xs.0 ys.0 n (λ j below. own_place xs.0 j (omega (arith, lx, below)) ∙ xs.3 j below) (λ j below. own_place ys.0 j (omega (arith, ly, below)) ∙ ys.3 j below) ∙ r.sum)

  -- ---- parts

  module _ (a : Expression) (n place : ℕ) (of_a : S a ≡ Some (n ∷ [])) (below_n : place < n) where
    abbrev B : ℕ → Expression
    B i = component_beside inputs.shape i a place

    abbrev at : ℕ → ℤ
    at j = got (V (C a j))

    beside_single : (i : ℕ) → i ≤ n → Single (B i)
    beside_single zero le = column_single inputs n a of_a place below_n
    beside_single (suc i) le = by (beside_single i (omega (arith, le))) (i == place)
      where
        by : Single (B i) → (t : Bool) → Single (if t then B i else e.Binary binary.Add (B i) (e.Binary binary.Multiply (C a i) (e.Number 0)))
        by one true = one
        by one false = sum_single (B i) (e.Binary binary.Multiply (C a i) (e.Number 0)) one
            (product_single (C a i) (e.Number 0) (column_single inputs n a of_a i (omega (arith, le))) (shape_number inputs.shape 0))

    record Seen (i : ℕ) (w : ℤ) : Type 0 where
      pub own : Has (V (C a place)) w
      pub others : (j : ℕ) → j < i → Has (V (C a j)) (at j)

    own_value : (w : ℤ) → Has (V (C a place)) w → Has (V (C a place)) (at place)
    own_value w h = h ∙ ap (λ v. Ok (v ∷ [])) (sym (ap got h))

    number_value : V (e.Number 0) ≡ Ok (pos 0 ∷ [])
    number_value = value_number inputs item 0

    seen : (i : ℕ) → i ≤ n → (w : ℤ) → Has (V (B i)) w → Seen i w
    seen zero le w h = record { own = h; others = λ j below. absurd (omega arith) }
    seen (suc i) le w h = by (seen i (omega (arith, le))) (i == place) refl h
      where
        m : Expression
        m = e.Binary binary.Multiply (C a i) (e.Number 0)

        below : i < n
        below = omega (arith, le)

        by : ((v : ℤ) → Has (V (B i)) v → Seen i v) → (t : Bool) → (i == place) ≡ t → Has (V (if t then B i else e.Binary binary.Add (B i) m)) w → Seen (suc i) w
        by before_i true is g =
            let r = before_i w g in
            record { own = r.own; others = before_or_last (λ j. Has (V (C a j)) (at j)) i r.others (subst (λ j. Has (V (C a j)) (at j)) (sym (eqb-true i place is)) (own_value w r.own)) }
        by before_i false is g =
            let one = column_single inputs n a of_a i below in
            let r = both_made binary.Add refl refl (B i) m (beside_single i (omega (arith, le))) (product_single (C a i) (e.Number 0) one (shape_number inputs.shape 0)) w g in
            let s = both_made binary.Multiply refl refl (C a i) (e.Number 0) one (shape_number inputs.shape 0) (got (V m)) r.1 in
            let zero_times : at i *ℤ pos 0 ≡ got (V m) = checked_is (at i *ℤ pos 0) (got (V m)) (ap (λ v. checked (at i *ℤ v)) (sym (ap got number_value)) ∙ s.2) in
            let nothing : got (V m) ≡ pos 0 = sym zero_times ∙ times_zero (at i) in
            let same : got (V (B i)) ≡ w = sym (plus_zero (got (V (B i)))) ∙ ap (λ v. got (V (B i)) +ℤ v) (sym nothing) ∙ checked_is (got (V (B i)) +ℤ got (V m)) w r.2 in
            let before = before_i (got (V (B i))) r.0 in
            record { own = before.own ∙ ap (λ v. Ok (v ∷ [])) same; others = before_or_last (λ j. Has (V (C a j)) (at j)) i before.others s.0 }

    part_value : (vs : Values) → V (B n) ≡ Ok vs → V (e.Part a place) ≡ Ok vs
    part_value [] h = absurd (omega (arith, is_one (B n) (beside_single n (omega arith)) [] h))
    part_value (v ∷ w ∷ vs) h = absurd (omega (arith, is_one (B n) (beside_single n (omega arith)) (v ∷ w ∷ vs) h))
    part_value (w ∷ []) h =
        let r = seen n (omega arith) w h in
        let xs = column_values inputs item n a (omega (arith, below_n)) of_a at r.others in
        value_part inputs item a place ∙ ap (λ (o : Outcome Values). o >>= λ x. alone (slice_index_or x place (pos 0))) xs.1
        ∙ ap (λ v. Ok (v ∷ [])) (xs.3 place below_n ∙ ap got r.own)

pub products_have : (inputs : Inputs) (a b : Expression) (n : ℕ) → 1 ≤ n → shape_of inputs.shape a ≡ Some (n ∷ []) → shape_of inputs.shape b ≡ Some (n ∷ []) →
    HasValuesOf inputs (sum_of_products inputs.shape n a b) (e.Binary binary.Dot a b)
products_have inputs a b n some of_a of_b item vs h = products_value inputs item a b n of_a of_b some vs h

pub component_has : (inputs : Inputs) (a : Expression) (n place : ℕ) → place < n → shape_of inputs.shape a ≡ Some (n ∷ []) → HasValuesOf inputs (component_beside inputs.shape n a place) (e.Part a place)
component_has inputs a n place below of_a item vs h = part_value inputs item a n place of_a below vs h

-- of equal expressions
pub along_equal : (inputs : Inputs) (x x' y y' : Expression) → x ≡ x' → y ≡ y' → HasValuesOf inputs x' y' → HasValuesOf inputs x y
along_equal inputs x x' y y' is to has item vs h = ap (value_of inputs item) to ∙ has item vs (sym (ap (value_of inputs item) is) ∙ h)

pub found_has : {E : Type 0} (inputs : Inputs) (r : Result Expression E) (x y : Expression) → IfOk r (λ found. found ≡ x) → HasValuesOf inputs x y → IfOk r (λ found. HasValuesOf inputs found y)
found_has inputs (Ok found) x y is has = λ item vs h. has item vs (sym (ap (value_of inputs item) is) ∙ h)
found_has inputs (Err f) x y is has = tt
