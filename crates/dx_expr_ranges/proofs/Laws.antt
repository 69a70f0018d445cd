-- Where the inputs keep to their ranges, and it is known where the values of an expression lie, each item has its values, and they lie there.
use Rattle.std.proofs.Common.{◌≡◌, ℕ, zero, suc, ◌+◌, ◌-◌, ◌<◌, ◌≤◌, ℤ, pos, negsuc, ◌+ℤ◌, ◌-ℤ◌, ◌*ℤ◌, neg_ℤ, Bool, true, false, List, [], ◌∷◌, ◌++◌, length, get_or, Option, Some, None, Ok, Err, refl, sym, ap, subst, ◌∙◌, length-append, append_assoc, append-nil, arith}
use Rattle.std.specs.Prelude.{map, nat_le, nat_lt, ◌==◌, ◌||◌, not, int_lt, int_le, is_some, slice_index_or, if◌then◌else◌}
use Rattle.std.specs.Int.{int_min, int_max}
use Rattle.std.specs.List.{range_with_len}
use Rattle.std.specs.Ordering.{int_eq}
use Rattle.std.proofs.lemmas.Int.{ints}
use Rattle.std.proofs.lemmas.Bool.{eqb-true, ltb-true}
use Rattle.dx_expr_grammar.specs.declared.tree.Unary.{Unary}
use Rattle.dx_expr_grammar.specs.declared.tree.Unary.TheVariants as unary
use Rattle.dx_expr_grammar.specs.declared.tree.Binary.{Binary}
use Rattle.dx_expr_grammar.specs.declared.tree.Binary.TheVariants as binary
use Rattle.dx_expr_grammar.specs.declared.tree.Expression.{Expression, roll-Expression, out-Expression}
use Rattle.dx_expr_grammar.specs.declared.tree.Expression.TheViews.{roll-out-Expression}
use Rattle.dx_expr_grammar.specs.declared.tree.Expression.TheVariants as e
use Rattle.dx_expr_grammar.specs.declared.tree.Expression.TheVariants.{rolls-Number, rolls-Input, rolls-Unary, rolls-Binary, rolls-Choice, rolls-Part, rolls-Vector}
use Rattle.dx_expr_grammar.specs.declared.tree.Expression.TheOpen.{Expression-F}
use Rattle.dx_expr.specs.declared.operators.Sides.TheVariants as sides
use Rattle.dx_expr.specs.Value.{Inputs, Outcome, Values, value_of, input_values, binary_values, side_by_side, places, dot_from, dot_product, decided, joined, size, each, checked, alone, is_int, is_zero, truth, the_value, unary_value, binary_value, sides_of, value_at, ◌>>=◌}
use Rattle.dx_expr.proofs.Nodes.{nodes, in_unary, in_left, in_right, in_condition, in_one, in_other, in_part, in_vector, in_parts}
use Rattle.dx_expr.proofs.Equations.{value_number, value_input, value_unary, value_binary, value_choice, value_part, value_vector}
use Rattle.dx_expr_eval.specs.Items.{values_from, faultless}
use Rattle.dx_expr_ranges.specs.declared.range.Range.{Range}
use Rattle.dx_expr_ranges.specs.Ranges as spec
use Rattle.dx_expr_ranges.specs.Ranges.{LiesFrom, IsIn, IsWithin, Keeps, AreWithin, given_for, with_one, with_two, int_of, between, has_zero, of_one, of_two, beside, farthest, farthest_below, lowest_product, highest_product, truths, in_either, either, and_next, all_of, none, range_of}
use Rattle.dx_expr_ranges.proofs.Between.{Lies, made_is, zero_is, checked_lies, negated, absolute, signed, truth_lies, summed, lessened, multiplied, divided, left_over, wider, wider_too, lesser, greater, SumLies, sum_next, sum_none, sum_within}
use Rattle.dx_expr_ranges.proofs.Equations.{range_number, range_input, range_unary, range_binary, range_choice, range_part, range_vector}

-- ---- lists of values

abbrev AllLie : ℤ → ℤ → Bool → Values → Type 0
AllLie low high may [] = Unit {0}
AllLie low high may (v ∷ vs) = LiesFrom low high may v × AllLie low high may vs

record IsOf (vs : Values) (r : Range) : Type 0 where
  pub count : length vs ≡ r.count
  pub all : AllLie r.low r.high r.zero vs

-- there are values, of this range
abbrev Has : Outcome Values → Range → Type 0
Has (Ok vs) r = IsOf vs r
Has (Err fault) r = ⊥

-- the same where it is known
abbrev Holds : Outcome Values → Option Range → Type 0
Holds o None = Unit {0}
Holds o (Some r) = Has o r

all_weaker : (l h : ℤ) (z : Bool) (l' h' : ℤ) (z' : Bool) (vs : Values) → ((v : ℤ) → LiesFrom l h z v → LiesFrom l' h' z' v) → AllLie l h z vs → AllLie l' h' z' vs
all_weaker l h z l' h' z' [] f all = tt
all_weaker l h z l' h' z' (v ∷ vs) f all = (f v all.0, all_weaker l h z l' h' z' vs f all.1)

all_both : (l h : ℤ) (z : Bool) (xs ys : Values) → AllLie l h z xs → AllLie l h z ys → AllLie l h z (xs ++ ys)
all_both l h z [] ys p q = q
all_both l h z (x ∷ xs) ys p q = (p.0, all_both l h z xs ys p.1 q)

lies_at : (l h : ℤ) (z : Bool) (vs : Values) (i : ℕ) → AllLie l h z vs → i < length vs → LiesFrom l h z (slice_index_or vs i (pos 0))
lies_at l h z [] i all below = absurd (omega (arith, below))
lies_at l h z (v ∷ vs) zero all below = all.0
lies_at l h z (v ∷ vs) (suc i) all below = lies_at l h z vs i all.1 (omega (arith, below))

-- the value at a place of a side, which is one of its values or the single one
value_lies : (vs : Values) (r : Range) (i : ℕ) → IsOf vs r → ((length vs == 1) ≡ false → i < length vs) → IsIn r (value_at vs i)
value_lies vs r i is below = by (length vs == 1) refl
  where
    by : (t : Bool) → (length vs == 1) ≡ t → IsIn r (slice_index_or vs (if t then 0 else i) (pos 0))
    by true one = let n = eqb-true (length vs) 1 one in lies_at r.low r.high r.zero vs 0 is.all (omega (arith, n))
    by false more = lies_at r.low r.high r.zero vs i is.all (below more)

one_has : (v : ℤ) (r : Range) → r.count ≡ 1 → IsIn r v → Has (alone v) r
one_has v r one h = record { count = sym one; all = (h, tt) }

-- ---- ranges between ints

between_holds : (o : Outcome Values) (count : ℕ) (low high : ℤ) (may : Bool) →
    (is_int low ≡ true → is_int high ≡ true → Has o (record { count = count; low = low; high = high; zero = may })) → Holds o (between count low high may)
between_holds o count low high may law = by (is_int low) refl (is_int high) refl
  where
    by : (t : Bool) → is_int low ≡ t → (u : Bool) → is_int high ≡ u →
        Holds o (with_one (λ l. with_one (λ h. Some (record { count = count; low = l; high = h; zero = may })) (if u then Some high else None)) (if t then Some low else None))
    by true p true q = law p q
    by true p false q = tt
    by false p u q = tt

-- ---- each of some values

-- so many values, which lie from one to another
abbrev AreMade : ℕ → ℤ → ℤ → Bool → Outcome Values → Type 0
AreMade n l h z (Ok vs) = (length vs ≡ n) × AllLie l h z vs
AreMade n l h z (Err fault) = ⊥

made_has : (n : ℕ) (r : Range) (o : Outcome Values) → n ≡ r.count → AreMade n r.low r.high r.zero o → Has o r
made_has n r (Ok vs) same made = record { count = made.0 ∙ same; all = made.1 }
made_has n r (Err fault) same made = absurd made

before_made : (n : ℕ) (l h : ℤ) (z : Bool) (o : Outcome ℤ) (rest : Outcome Values) → Lies l h z o → AreMade n l h z rest → AreMade (suc n) l h z (o >>= λ v. rest >>= λ vs. Ok (v ∷ vs))
before_made n l h z (Ok v) (Ok vs) p q = (ap suc q.0, (p, q.1))
before_made n l h z (Ok v) (Err fault) p q = absurd q
before_made n l h z (Err fault) rest p q = absurd p

each_made : (f : ℤ → Outcome ℤ) (l h : ℤ) (z : Bool) (l' h' : ℤ) (z' : Bool) (vs : Values) → ((v : ℤ) → LiesFrom l h z v → Lies l' h' z' (f v)) → AllLie l h z vs → AreMade (length vs) l' h' z' (each f vs)
each_made f l h z l' h' z' [] is all = (refl, tt)
each_made f l h z l' h' z' (v ∷ vs) is all = before_made (length vs) l' h' z' (f v) (each f vs) (is v all.0) (each_made f l h z l' h' z' vs is all.1)

places_made : (f : ℕ → Outcome ℤ) (l h : ℤ) (z : Bool) (from n : ℕ) → ((i : ℕ) → i < from + n → Lies l h z (f i)) → AreMade n l h z (each f (range_with_len from n))
places_made f l h z from zero is = (refl, tt)
places_made f l h z from (suc n) is = before_made n l h z (f from) (each f (range_with_len (from + 1) n)) (is from (omega arith)) (places_made f l h z (from + 1) n (λ i below. is i (omega (arith, below))))

each_has : (f : ℤ → Outcome ℤ) (a r : Range) (vs : Values) → a.count ≡ r.count → ((v : ℤ) → IsIn a v → Lies r.low r.high r.zero (f v)) → IsOf vs a → Has (each f vs) r
each_has f a r vs same is of = made_has (length vs) r (each f vs) (of.count ∙ same) (each_made f a.low a.high a.zero r.low r.high r.zero vs is of.all)

unary_has : (o : Unary) (vs : Values) (a : Range) → IsOf vs a → Holds (each (unary_value o) vs) (of_one o a)
unary_has unary.Negate vs a of =
    between_holds (each (unary_value unary.Negate) vs) a.count (neg_ℤ a.high) (neg_ℤ a.low) a.zero
    (λ p q. each_has (unary_value unary.Negate) a (record { count = a.count; low = neg_ℤ a.high; high = neg_ℤ a.low; zero = a.zero }) vs refl (λ v h. negated a v p q h) of)
unary_has unary.Not vs a of = each_has (unary_value unary.Not) a (truths a.count) vs refl (λ v h. truth_lies (is_zero v)) of
unary_has unary.Absolute vs a of =
    between_holds (each (unary_value unary.Absolute) vs) a.count (int_max (pos 0) a.low) (farthest a) (has_zero a)
    (λ p q. each_has (unary_value unary.Absolute) a (record { count = a.count; low = int_max (pos 0) a.low; high = farthest a; zero = has_zero a }) vs refl (λ v h. absolute a v p q h) of)
unary_has unary.Sign vs a of = each_has (unary_value unary.Sign) a (record { count = a.count; low = negsuc 0; high = pos 1; zero = has_zero a }) vs refl (λ v h. signed a v h) of

-- ---- side by side

-- so many values stand side by side, each in the range of its side
record AreBeside (x y : Values) (a b : Range) (n : ℕ) : Type 0 where
  pub many : places x y ≡ n
  pub left : (i : ℕ) → i < n → IsIn a (value_at x i)
  pub right : (i : ℕ) → i < n → IsIn b (value_at y i)

are_beside : (x y : Values) (a b : Range) (n : ℕ) → IsOf x a → IsOf y b → spec.places a b ≡ Some n → AreBeside x y a b n
are_beside x y a b n p q is = by (a.count == 1) refl (b.count == 1 || a.count == b.count) refl is
  where
    of_left : (length x == 1) ≡ (a.count == 1)
    of_left = ap (λ k. k == 1) p.count

    of_right : (length y == 1) ≡ (b.count == 1)
    of_right = ap (λ k. k == 1) q.count

    beside_more : (t : Bool) → (b.count == 1) ≡ t → (t || a.count == b.count) ≡ true → (i : ℕ) → i < a.count → (length y == 1) ≡ false → i < length y
    beside_more true one h i below more = absurd (let k = of_right ∙ one in cc)
    beside_more false many h i below more = let e = eqb-true a.count b.count h in let c = q.count in omega (arith, below, e, c)

    by : (t : Bool) → (a.count == 1) ≡ t → (u : Bool) → (b.count == 1 || a.count == b.count) ≡ u → (if t then Some b.count else if u then Some a.count else None) ≡ Some n → AreBeside x y a b n
    by true one u other is =
        let same : b.count ≡ n = cc in
        let c = q.count in
        record {
          many = rw (of_left ∙ one) (c ∙ same);
          left = λ i below. value_lies x a i p (λ more. absurd (let k = of_left ∙ one in cc));
          right = λ i below. value_lies y b i q (λ more. omega (arith, below, same, c));
        }
    by false many true other is =
        let same : a.count ≡ n = cc in
        let c = p.count in
        record {
          many = rw (of_left ∙ many) (c ∙ same);
          left = λ i below. value_lies x a i p (λ more. omega (arith, below, same, c));
          right = λ i below. value_lies y b i q (beside_more (b.count == 1) refl other i (omega (arith, below, same)));
        }
    by false many false other is = absurd cc

-- an operator that makes values from one to another of values side by side
beside_holds : (f : ℤ → ℤ → Outcome ℤ) (x y : Values) (a b : Range) (low high : ℤ) (may : Bool) → IsOf x a → IsOf y b →
    (is_int low ≡ true → is_int high ≡ true → (v w : ℤ) → IsIn a v → IsIn b w → Lies low high may (f v w)) → Holds (side_by_side f x y) (beside a b low high may)
unfolding beside
beside_holds f x y a b low high may p q law = by (spec.places a b) refl
  where
    by : (n : Option ℕ) → spec.places a b ≡ n → Holds (side_by_side f x y) (with_one (λ n. between n low high may) n)
    by None is = tt
    by (Some n) is =
        let stand = are_beside x y a b n p q is in
        between_holds (side_by_side f x y) n low high may (λ s t.
        made_has (places x y) (record { count = n; low = low; high = high; zero = may }) (side_by_side f x y) stand.many
        (places_made (λ i. f (value_at x i) (value_at y i)) low high may 0 (places x y) (λ i below.
        let inside : i < n = let m = stand.many in omega (arith, below, m) in
        law s t (value_at x i) (value_at y i) (stand.left i inside) (stand.right i inside))))

-- where the right side can't be zero
nonzero_holds : (f : ℤ → ℤ → Outcome ℤ) (x y : Values) (a b : Range) (low high : ℤ) → IsOf x a → IsOf y b →
    (is_int low ≡ true → is_int high ≡ true → has_zero b ≡ false → (v w : ℤ) → IsIn a v → IsIn b w → Lies low high true (f v w)) →
    Holds (side_by_side f x y) (if has_zero b then None else beside a b low high true)
nonzero_holds f x y a b low high p q law = by (has_zero b) refl
  where
    by : (t : Bool) → has_zero b ≡ t → Holds (side_by_side f x y) (if t then None else beside a b low high true)
    by true is = tt
    by false is = beside_holds f x y a b low high true p q (λ s t v w h k. law s t is v w h k)

truth_holds : (f : ℤ → ℤ → Bool) (x y : Values) (a b : Range) → IsOf x a → IsOf y b → Holds (side_by_side (λ v w. Ok (truth (f v w))) x y) (beside a b (pos 0) (pos 1) true)
truth_holds f x y a b p q = beside_holds (λ v w. Ok (truth (f v w))) x y a b (pos 0) (pos 1) true p q (λ s t v w h k. truth_lies (f v w))

-- operators that look at both sides
both_law : (o : Binary) (x y : Values) (a b : Range) → sides_of o ≡ sides.Both → IsOf x a → IsOf y b → Holds (side_by_side (binary_value o) x y) (of_two o a b)
both_law binary.Or x y a b is p q = absurd cc
both_law binary.And x y a b is p q = absurd cc
both_law binary.Equal x y a b is p q = truth_holds (λ v w. int_eq v w) x y a b p q
both_law binary.NotEqual x y a b is p q = truth_holds (λ v w. not (int_eq v w)) x y a b p q
both_law binary.Less x y a b is p q = truth_holds (λ v w. int_lt v w) x y a b p q
both_law binary.LessEqual x y a b is p q = truth_holds (λ v w. int_le v w) x y a b p q
both_law binary.Greater x y a b is p q = truth_holds (λ v w. int_lt w v) x y a b p q
both_law binary.GreaterEqual x y a b is p q = truth_holds (λ v w. int_le w v) x y a b p q
both_law binary.Add x y a b is p q =
    beside_holds (binary_value binary.Add) x y a b (a.low +ℤ b.low) (a.high +ℤ b.high) true p q (λ s t v w h k. summed a b v w s t h k)
both_law binary.Subtract x y a b is p q =
    beside_holds (binary_value binary.Subtract) x y a b (a.low -ℤ b.high) (a.high -ℤ b.low) true p q (λ s t v w h k. lessened a b v w s t h k)
both_law binary.Multiply x y a b is p q =
    beside_holds (binary_value binary.Multiply) x y a b (lowest_product a b) (highest_product a b) true p q (λ s t v w h k. multiplied a b v w s t h k)
both_law binary.Divide x y a b is p q =
    nonzero_holds (binary_value binary.Divide) x y a b (farthest_below a) (farthest a) p q (λ s t none v w h k. divided a b v w s t none h k)
both_law binary.Remainder x y a b is p q =
    nonzero_holds (binary_value binary.Remainder) x y a b (int_min (pos 0) a.low) (int_max (pos 0) a.high) p q (λ s t none v w h k. left_over a b v w s t none h k)
both_law binary.Minimum x y a b is p q =
    beside_holds (binary_value binary.Minimum) x y a b (int_min a.low b.low) (int_min a.high b.high) (has_zero a || has_zero b) p q (λ s t v w h k. lesser a b v w h k)
both_law binary.Maximum x y a b is p q =
    beside_holds (binary_value binary.Maximum) x y a b (int_max a.low b.low) (int_max a.high b.high) (has_zero a || has_zero b) p q (λ s t v w h k. greater a b v w h k)
both_law binary.Dot x y a b is p q = absurd cc

-- ---- scalar products

-- a sum that is made lies within those of all places
sum_has : (n : ℕ) (low high sum : ℤ) (m : ℕ) → is_int (pos n *ℤ int_min (pos 0) low) ≡ true → is_int (pos n *ℤ int_max (pos 0) high) ≡ true → m ≤ n → SumLies m low high sum →
    Lies (pos n *ℤ int_min (pos 0) low) (pos n *ℤ int_max (pos 0) high) true (checked sum)
sum_has n low high sum m p q few lies = checked_lies (pos n *ℤ int_min (pos 0) low) sum (pos n *ℤ int_max (pos 0) high) true p q (sum_within m n low high sum few lies)

module _ (x y : Values) (low high : ℤ) (n : ℕ) (one : (i : ℕ) → i < n → Lies low high true (checked (value_at x i *ℤ value_at y i)))
    (least : is_int (pos n *ℤ int_min (pos 0) low) ≡ true) (most : is_int (pos n *ℤ int_max (pos 0) high) ≡ true) where
  abbrev all_sums : Range
  all_sums = record { count = 1; low = pos n *ℤ int_min (pos 0) low; high = pos n *ℤ int_max (pos 0) high; zero = true }

  dot_has : (from left : ℕ) (sum : ℤ) → from + left ≡ n → SumLies from low high sum → Has (dot_from x y sum (range_with_len from left) >>= alone) all_sums
  dot_has from zero sum is lies = one_has sum all_sums refl (sum_within from n low high sum (omega (arith, is)) lies)
  dot_has from (suc left) sum is lies =
      with_one_more (checked (value_at x from *ℤ value_at y from)) (one from (omega (arith, is)))
      (λ more next. dot_has (from + 1) left more (omega (arith, is)) (subst (λ m. SumLies m low high more) (omega arith) next))
    where
      -- a sum that is made
      with_sum : (product : ℤ) (o : Outcome ℤ) → checked (sum +ℤ product) ≡ o → SumLies (suc from) low high (sum +ℤ product) → Lies (pos n *ℤ int_min (pos 0) low) (pos n *ℤ int_max (pos 0) high) true o →
          ((more : ℤ) → SumLies (suc from) low high more → Has (dot_from x y more (range_with_len (from + 1) left) >>= alone) all_sums) →
          Has ((o >>= λ more. dot_from x y more (range_with_len (from + 1) left)) >>= alone) all_sums
      with_sum product (Err fault) made next in_all on = absurd in_all
      with_sum product (Ok more) made next in_all on = on more (subst (SumLies (suc from) low high) (made_is (sum +ℤ product) more made) next)

      -- with a product that is made
      with_one_more : (o : Outcome ℤ) → Lies low high true o → ((more : ℤ) → SumLies (suc from) low high more → Has (dot_from x y more (range_with_len (from + 1) left) >>= alone) all_sums) →
          Has (((o >>= λ product. checked (sum +ℤ product)) >>= λ more. dot_from x y more (range_with_len (from + 1) left)) >>= alone) all_sums
      with_one_more (Err fault) h on = absurd h
      with_one_more (Ok product) h on =
          let next : SumLies (suc from) low high (sum +ℤ product) = sum_next from low high sum product h.low h.high lies in
          with_sum product (checked (sum +ℤ product)) refl next (sum_has n low high (sum +ℤ product) (suc from) least most (omega (arith, is)) next) on

dot_law : (x y : Values) (a b : Range) → IsOf x a → IsOf y b → Holds (dot_product x y) (spec.dot a b)
dot_law x y a b p q = by (a.count == b.count) refl
  where
    -- each product is made, and all their sums
    products : is_int (lowest_product a b) ≡ true → is_int (highest_product a b) ≡ true → a.count ≡ b.count → (i : ℕ) → i < length x → Lies (lowest_product a b) (highest_product a b) true (checked (value_at x i *ℤ value_at y i))
    products s t same i below =
        let m = p.count in
        let n = q.count in
        multiplied a b (value_at x i) (value_at y i) s t (value_lies x a i p (λ more. below)) (value_lies y b i q (λ more. omega (arith, below, m, n, same)))

    sums_hold : is_int (lowest_product a b) ≡ true → is_int (highest_product a b) ≡ true → a.count ≡ b.count →
        Holds (dot_product x y) (spec.sums (record { count = a.count; low = lowest_product a b; high = highest_product a b; zero = true }))
    sums_hold s t same =
        subst (λ n. Holds (dot_product x y) (spec.sums (record { count = n; low = lowest_product a b; high = highest_product a b; zero = true }))) p.count
        (between_holds (dot_product x y) 1 (pos (length x) *ℤ int_min (pos 0) (lowest_product a b)) (pos (length x) *ℤ int_max (pos 0) (highest_product a b)) true (λ least most.
        dot_has x y (lowest_product a b) (highest_product a b) (length x) (products s t same) least most 0 (length x) (pos 0) (omega arith) (sum_none (lowest_product a b) (highest_product a b))))

    with_products : (t : Bool) → is_int (lowest_product a b) ≡ t → (u : Bool) → is_int (highest_product a b) ≡ u → a.count ≡ b.count →
        Holds (dot_product x y) (with_one spec.sums (with_one (λ l. with_one (λ h. Some (record { count = a.count; low = l; high = h; zero = true })) (if u then Some (highest_product a b) else None)) (if t then Some (lowest_product a b) else None)))
    with_products true s true t same = sums_hold s t same
    with_products true s false t same = tt
    with_products false s u t same = tt

    by : (t : Bool) → (a.count == b.count) ≡ t → Holds (dot_product x y) (if t then with_one spec.sums (between a.count (lowest_product a b) (highest_product a b) true) else None)
    by true is = with_products (is_int (lowest_product a b)) refl (is_int (highest_product a b)) refl (eqb-true a.count b.count is)
    by false is = tt

-- ---- kinds of expressions

one_law : (o : Outcome Values) (x : Option Range) (f : Values → Outcome Values) (g : Range → Option Range) → Holds o x → ((vs : Values) (r : Range) → IsOf vs r → Holds (f vs) (g r)) → Holds (o >>= f) (with_one g x)
one_law o None f g h law = tt
one_law (Ok vs) (Some r) f g h law = law vs r h
one_law (Err fault) (Some r) f g h law = absurd h

truth_has : (t : Bool) → Has (alone (truth t)) (truths 1)
truth_has t = one_has (truth t) (truths 1) refl (truth_lies t)

decided_law : (o : Outcome Values) (x : Option Range) → Holds o x → Holds (o >>= decided) (with_one (λ q. Some (truths 1)) x)
decided_law o x h = one_law o x decided (λ q. Some (truths 1)) h (λ vs r is. truth_has (not (is_zero (the_value vs))))

if_known : (o : Outcome Values) (x : Option Range) (r : Range) → Has o r → Holds o (with_one (λ q. Some r) x)
if_known o None r h = tt
if_known o (Some q) r h = h

either_law : (t : Bool) (a b : Outcome Values) (x : Option Range) → Holds a x → Holds b x → Holds (if t then a else b) x
either_law true a b x p q = p
either_law false a b x p q = q

or_law : (a b : Outcome Values) (x y : Option Range) → Holds a x → Holds b y → Holds (binary_values binary.Or a b) (with_two (of_two binary.Or) x y)
or_law a b x y p q =
    one_law a x (λ v. if is_zero (the_value v) then b >>= decided else alone (pos 1)) (λ r. with_one (of_two binary.Or r) y) p
    (λ vs r is. either_law (is_zero (the_value vs)) (b >>= decided) (alone (pos 1)) (with_one (λ q. Some (truths 1)) y) (decided_law b y q) (if_known (alone (pos 1)) y (truths 1) (truth_has true)))

and_law : (a b : Outcome Values) (x y : Option Range) → Holds a x → Holds b y → Holds (binary_values binary.And a b) (with_two (of_two binary.And) x y)
and_law a b x y p q =
    one_law a x (λ v. if is_zero (the_value v) then alone (pos 0) else b >>= decided) (λ r. with_one (of_two binary.And r) y) p
    (λ vs r is. either_law (is_zero (the_value vs)) (alone (pos 0)) (b >>= decided) (with_one (λ q. Some (truths 1)) y) (if_known (alone (pos 0)) y (truths 1) (truth_has false)) (decided_law b y q))

vectors_law : (a b : Outcome Values) (x y : Option Range) → Holds a x → Holds b y → Holds (binary_values binary.Dot a b) (with_two (of_two binary.Dot) x y)
vectors_law a b x y p q =
    one_law a x (λ v. b >>= λ w. dot_product v w) (λ r. with_one (of_two binary.Dot r) y) p
    (λ v r is. one_law b y (λ w. dot_product v w) (of_two binary.Dot r) q (λ w s also. dot_law v w r s is also))

sides_law : (o : Binary) (a b : Outcome Values) (x y : Option Range) → sides_of o ≡ sides.Both → Holds a x → Holds b y → Holds (a >>= λ v. b >>= λ w. side_by_side (binary_value o) v w) (with_two (of_two o) x y)
sides_law o a b x y both p q =
    one_law a x (λ v. b >>= λ w. side_by_side (binary_value o) v w) (λ r. with_one (of_two o r) y) p
    (λ v r is. one_law b y (λ w. side_by_side (binary_value o) v w) (of_two o r) q (λ w s also. both_law o v w r s both is also))

binary_law : (o : Binary) (a b : Outcome Values) (x y : Option Range) → Holds a x → Holds b y → Holds (binary_values o a b) (with_two (of_two o) x y)
binary_law binary.Or a b x y p q = or_law a b x y p q
binary_law binary.And a b x y p q = and_law a b x y p q
binary_law binary.Equal a b x y p q = sides_law binary.Equal a b x y refl p q
binary_law binary.NotEqual a b x y p q = sides_law binary.NotEqual a b x y refl p q
binary_law binary.Less a b x y p q = sides_law binary.Less a b x y refl p q
binary_law binary.LessEqual a b x y p q = sides_law binary.LessEqual a b x y refl p q
binary_law binary.Greater a b x y p q = sides_law binary.Greater a b x y refl p q
binary_law binary.GreaterEqual a b x y p q = sides_law binary.GreaterEqual a b x y refl p q
binary_law binary.Add a b x y p q = sides_law binary.Add a b x y refl p q
binary_law binary.Subtract a b x y p q = sides_law binary.Subtract a b x y refl p q
binary_law binary.Multiply a b x y p q = sides_law binary.Multiply a b x y refl p q
binary_law binary.Divide a b x y p q = sides_law binary.Divide a b x y refl p q
binary_law binary.Remainder a b x y p q = sides_law binary.Remainder a b x y refl p q
binary_law binary.Minimum a b x y p q = sides_law binary.Minimum a b x y refl p q
binary_law binary.Maximum a b x y p q = sides_law binary.Maximum a b x y refl p q
binary_law binary.Dot a b x y p q = vectors_law a b x y p q

unary_law : (o : Unary) (a : Outcome Values) (x : Option Range) → Holds a x → Holds (a >>= each (unary_value o)) (with_one (of_one o) x)
unary_law o a x h = one_law a x (each (unary_value o)) (of_one o) h (λ vs r is. unary_has o vs r is)

number_zero : (n : ℕ) → is_zero (pos n) ≡ true → (n == 0) ≡ true
number_zero zero h = refl
number_zero (suc n) h = absurd (let e = zero_is (pos (suc n)) h in cc)

number_law : (n : ℕ) → Holds (checked (pos n) >>= alone) (spec.number n)
number_law n =
    between_holds (checked (pos n) >>= alone) 1 (pos n) (pos n) (n == 0) (λ p q.
    rw p (one_has (pos n) (record { count = 1; low = pos n; high = pos n; zero = n == 0 }) refl (record { low = omega (arith, ints); high = omega (arith, ints); zero = number_zero n })))

-- the values of one side or the other
left_has : (n : ℕ) (o : Outcome Values) (a b : Range) → a.count ≡ n → Has o a → Has o (in_either n a b)
left_has n (Ok vs) a b same is =
    record { count = is.count ∙ same; all = all_weaker a.low a.high a.zero (int_min a.low b.low) (int_max a.high b.high) (has_zero a || has_zero b) vs (wider a b) is.all }
left_has n (Err fault) a b same is = absurd is

right_has : (n : ℕ) (o : Outcome Values) (a b : Range) → b.count ≡ n → Has o b → Has o (in_either n a b)
right_has n (Ok vs) a b same is =
    record { count = is.count ∙ same; all = all_weaker b.low b.high b.zero (int_min a.low b.low) (int_max a.high b.high) (has_zero a || has_zero b) vs (wider_too a b) is.all }
right_has n (Err fault) a b same is = absurd is

branch_law : (t : Bool) (a b : Outcome Values) (x y : Option Range) → Holds a x → Holds b y → Holds (if t then b else a) (with_two either x y)
branch_law t a b None y p q = tt
branch_law t a b (Some r) None p q = tt
branch_law t a b (Some r) (Some s) p q = by (r.count == s.count) refl
  where
    by : (u : Bool) → (r.count == s.count) ≡ u → Holds (if t then b else a) (if u then Some (in_either r.count r s) else None)
    by true is = either_law t b a (Some (in_either r.count r s)) (right_has r.count b r s (sym (eqb-true r.count s.count is)) q) (left_has r.count a r s refl p)
    by false is = tt

choice_law : (c a b : Outcome Values) (z x y : Option Range) → Holds c z → Holds a x → Holds b y →
    Holds (c >>= λ v. if is_zero (the_value v) then b else a) (with_one (λ k. with_two either x y) z)
choice_law c a b z x y r p q =
    one_law c z (λ v. if is_zero (the_value v) then b else a) (λ k. with_two either x y) r
    (λ v k is. branch_law (is_zero (the_value v)) a b x y p q)

part_has : (k : ℕ) (vs : Values) (r : Range) → IsOf vs r → Holds (alone (slice_index_or vs k (pos 0))) (spec.part k r)
part_has k vs r is = by (nat_lt k r.count) refl
  where
    by : (t : Bool) → nat_lt k r.count ≡ t → Holds (alone (slice_index_or vs k (pos 0))) (if t then Some (record { count = 1; low = r.low; high = r.high; zero = r.zero }) else None)
    by true below =
        let c = is.count in
        let l = ltb-true k r.count below in
        one_has (slice_index_or vs k (pos 0)) (record { count = 1; low = r.low; high = r.high; zero = r.zero }) refl (lies_at r.low r.high r.zero vs k is.all (omega (arith, c, l)))
    by false beyond = tt

part_law : (k : ℕ) (a : Outcome Values) (x : Option Range) → Holds a x → Holds (a >>= λ v. alone (slice_index_or v k (pos 0))) (with_one (spec.part k) x)
part_law k a x h = one_law a x (λ v. alone (slice_index_or v k (pos 0))) (spec.part k) h (λ vs r is. part_has k vs r is)

-- ---- vectors

-- values and the next behind them
next_has : (us vs : Values) (a b : Range) → IsOf us a → IsOf vs b → IsOf (us ++ vs) (in_either (a.count + b.count) a b)
next_has us vs a b p q =
    let m = p.count in
    let n = q.count in
    record {
      count = omega (arith, length-append us vs, m, n);
      all = all_both (int_min a.low b.low) (int_max a.high b.high) (has_zero a || has_zero b) us vs
          (all_weaker a.low a.high a.zero (int_min a.low b.low) (int_max a.high b.high) (has_zero a || has_zero b) us (wider a b) p.all)
          (all_weaker b.low b.high b.zero (int_min a.low b.low) (int_max a.high b.high) (has_zero a || has_zero b) vs (wider_too a b) q.all);
    }

put_behind : (us v : Values) (rest : Outcome Values) → (rest >>= λ vs. Ok ((us ++ v) ++ vs)) ≡ ((rest >>= λ vs. Ok (v ++ vs)) >>= λ z. Ok (us ++ z))
put_behind us v (Ok vs) = ap (λ z. Ok z) (append_assoc us v vs)
put_behind us v (Err fault) = refl

all_law : {A : Type 0} (f : A → Outcome Values) (g : A → Option Range) (parts : List A) (us : Values) (a : Range) → IsOf us a → ((i : ℕ) (d : A) → i < length parts → Holds (f (get_or parts i d)) (g (get_or parts i d))) →
    Holds (joined (map f parts) >>= λ z. Ok (us ++ z)) (all_of a (map g parts))
all_law f g [] us a is laws = subst (λ (z : Values). IsOf z a) (sym (append-nil us)) is
all_law {A} f g (p ∷ parts) us a is laws =
    by (f p) (g p) (laws 0 p (omega arith)) (λ more b of. all_law f g parts more b of (λ i d below. laws (suc i) d (omega (arith, below))))
  where
    next : (v : Values) (b : Range) → IsOf v b → (t : Bool) → nat_le (a.count + b.count) 65536 ≡ t →
        ((more : Values) (b : Range) → IsOf more b → Holds (joined (map f parts) >>= λ z. Ok (more ++ z)) (all_of b (map g parts))) →
        Holds ((joined (map f parts) >>= λ vs. Ok (v ++ vs)) >>= λ z. Ok (us ++ z)) (with_one (λ y. all_of y (map g parts)) (if t then Some (in_either (a.count + b.count) a b) else None))
    next v b h true few rest =
        subst (λ (o : Outcome Values). Holds o (all_of (in_either (a.count + b.count) a b) (map g parts))) (put_behind us v (joined (map f parts)))
        (rest (us ++ v) (in_either (a.count + b.count) a b) (next_has us v a b is h))
    next v b h false many rest = tt

    by : (o : Outcome Values) (x : Option Range) → Holds o x →
        ((more : Values) (b : Range) → IsOf more b → Holds (joined (map f parts) >>= λ z. Ok (more ++ z)) (all_of b (map g parts))) →
        Holds ((o >>= λ v. joined (map f parts) >>= λ vs. Ok (v ++ vs)) >>= λ z. Ok (us ++ z)) (with_one (λ x. with_one (λ y. all_of y (map g parts)) (and_next a x)) x)
    by o None h rest = tt
    by (Ok v) (Some b) h rest = next v b h (nat_le (a.count + b.count) 65536) refl rest
    by (Err fault) (Some b) h rest = absurd h

none_before : (o : Outcome Values) (x : Option Range) → Holds (o >>= λ z. Ok ([] ++ z)) x → Holds o x
none_before (Ok vs) x h = h
none_before (Err fault) x h = h

-- ---- expressions

module _ (inputs : Inputs) (from to : ℕ) (ranges : List (Option Range)) (within : AreWithin inputs from to ranges) (item : ℕ) (start : from ≤ item) (below : item < to) where
  abbrev V : Expression → Outcome Values
  V a = value_of inputs item a

  abbrev R : Expression → Option Range
  R a = range_of ranges a

  record Law (x : Expression) : Type 0 where
    pub holds : Holds (V x) (R x)

  of_same : (x : Expression) (o : Outcome Values) (r : Option Range) → V x ≡ o → R x ≡ r → Holds o r → Law x
  of_same x o r is known h = record { holds = subst (λ r. Holds (V x) r) (sym known) (subst (λ o. Holds o r) (sym is) h) }

  given_law : (k : ℕ) (r : Option Range) → Keeps inputs k from to r → Holds (input_values inputs item k) (with_one spec.known r)
  given_law k None keeps = tt
  given_law k (Some r) keeps =
      between_holds (input_values inputs item k) r.count r.low r.high r.zero (λ p q.
      made_has (size (inputs.shape k)) r (input_values inputs item k) keeps.count
      (places_made (λ place. checked (inputs.value k item place)) r.low r.high r.zero 0 (size (inputs.shape k)) (λ place inside.
      checked_lies r.low (inputs.value k item place) r.high r.zero p q (keeps.values item place start below (omega (arith, inside))))))

  input_law : (k : ℕ) → Holds (input_values inputs item k) (with_one spec.known (given_for ranges k))
  input_law k = given_law k (given_for ranges k) (within k)

  -- of a kind of expression, by its parts
  layer_law : (l : Expression-F Expression) → ((a : Expression) → nodes a < nodes (roll-Expression l) → Law a) → Law (roll-Expression l)
  layer_law (Expression-F.Number n) laws = subst Law (sym (rolls-Number n)) (of_same (e.Number n) _ _ (value_number inputs item n) (range_number ranges n) (number_law n))
  layer_law (Expression-F.Input k) laws = subst Law (sym (rolls-Input k)) (of_same (e.Input k) _ _ (value_input inputs item k) (range_input ranges k) (input_law k))
  layer_law (Expression-F.Unary o a) laws =
      subst Law (sym (rolls-Unary o a)) (of_same (e.Unary o a) _ _ (value_unary inputs item o a) (range_unary ranges o a)
      (unary_law o (V a) (R a) (laws a (in_unary _ o a a (rolls-Unary o a) refl)).holds))
  layer_law (Expression-F.Binary o a b) laws =
      subst Law (sym (rolls-Binary o a b)) (of_same (e.Binary o a b) _ _ (value_binary inputs item o a b) (range_binary ranges o a b)
      (binary_law o (V a) (V b) (R a) (R b) (laws a (in_left _ o a b a (rolls-Binary o a b) refl)).holds (laws b (in_right _ o a b b (rolls-Binary o a b) refl)).holds))
  layer_law (Expression-F.Choice c a b) laws =
      subst Law (sym (rolls-Choice c a b)) (of_same (e.Choice c a b) _ _ (value_choice inputs item c a b) (range_choice ranges c a b)
      (choice_law (V c) (V a) (V b) (R c) (R a) (R b) (laws c (in_condition _ c a b c (rolls-Choice c a b) refl)).holds (laws a (in_one _ c a b a (rolls-Choice c a b) refl)).holds (laws b (in_other _ c a b b (rolls-Choice c a b) refl)).holds))
  layer_law (Expression-F.Part a k) laws =
      subst Law (sym (rolls-Part a k)) (of_same (e.Part a k) _ _ (value_part inputs item a k) (range_part ranges a k)
      (part_law k (V a) (R a) (laws a (in_part _ a k a (rolls-Part a k) refl)).holds))
  layer_law (Expression-F.Vector parts) laws =
      subst Law (sym (rolls-Vector parts)) (of_same (e.Vector parts) _ _ (value_vector inputs item parts) (range_vector ranges parts)
      (none_before (joined (map V parts)) (all_of none (map R parts)) (all_law V R parts [] none (record { count = refl; all = tt }) (λ i d inside.
      let h = in_parts parts i d (get_or parts i d) inside refl in
      let g = in_vector (roll-Expression (Expression-F.Vector parts)) parts parts (rolls-Vector parts) refl in
      (laws (get_or parts i d) (omega (arith, h, g))).holds))))

  by_size : (n : ℕ) (x : Expression) → nodes x < n → Law x
  by_size zero x h = absurd (omega (arith, h))
  by_size (suc n) x h = subst Law (roll-out-Expression x) (layer_law (out-Expression x) (λ a less. let g : nodes (roll-Expression (out-Expression x)) ≡ nodes x = ap nodes (roll-out-Expression x) in by_size n a (omega (arith, h, less, g))))

  item_holds : (x : Expression) → Holds (V x) (R x)
  item_holds x = (by_size (suc (nodes x)) x (omega arith)).holds

-- ---- all items

has_known : (o : Outcome Values) (x : Option Range) → is_some x ≡ true → Holds o x → faultless o ≡ Ok tt
has_known o None some h = absurd cc
has_known (Ok vs) (Some r) some h = refl
has_known (Err fault) (Some r) some h = absurd h

faultless_both : (o rest : Outcome Values) → faultless o ≡ Ok tt → faultless rest ≡ Ok tt → faultless (o >>= λ v. rest >>= λ vs. Ok (v ++ vs)) ≡ Ok tt
faultless_both (Ok v) (Ok vs) p q = refl
faultless_both (Ok v) (Err fault) p q = absurd cc
faultless_both (Err fault) rest p q = absurd cc

faultless_from : (f : ℕ → Outcome Values) (from n : ℕ) → ((item : ℕ) → from ≤ item → item < from + n → faultless (f item) ≡ Ok tt) → faultless (joined (map f (range_with_len from n))) ≡ Ok tt
faultless_from f from zero laws = refl
faultless_from f from (suc n) laws =
    faultless_both (f from) (joined (map f (range_with_len (from + 1) n))) (laws from (omega arith) (omega arith))
    (faultless_from f (from + 1) n (λ item start below. laws item (omega (arith, start)) (omega (arith, below))))

-- no item has a fault where it is known where the values lie
pub known_faultless : (inputs : Inputs) (from to : ℕ) (ranges : List (Option Range)) (x : Expression) → AreWithin inputs from to ranges → is_some (range_of ranges x) ≡ true → faultless (values_from inputs x from to) ≡ Ok tt
known_faultless inputs from to ranges x within some =
    faultless_from (λ item. value_of inputs item x) from (to - from) (λ item start below. has_known (value_of inputs item x) (range_of ranges x) some (item_holds inputs from to ranges within item start (omega (arith, start, below)) x))
