-- All values of an expression are ints, since each is one that has been checked, or is made of such by a choice.
use Rattle.std.proofs.Common.{◌≡◌, ℕ, zero, suc, ◌<◌, min, ◌+ℤ◌, ◌-ℤ◌, ◌*ℤ◌, ℤ, pos, negsuc, Bool, true, false, List, [], ◌∷◌, ◌++◌, length, get_or, Result, Ok, Err, refl, sym, ap, subst, ◌∙◌, arith}
use Rattle.std.specs.Prelude.{map, cond, neg_ℤ, unsigned_abs, int_lt, int_div, int_rem, slice_index_or, if◌then◌else◌, IfOk}
use Rattle.std.specs.List.{list_all, range_with_len}
use Rattle.std.specs.Int.{int_min, int_max, int_signum}
use Rattle.std.specs.Cmp.Derive.{both_true}
use Rattle.std.proofs.lemmas.Bool.{lt-ltb}
use Rattle.std.proofs.lemmas.Int.{ints}
use Rattle.dx_base.specs.declared.fail.Fail.{Fail}
use Rattle.dx_base.specs.declared.elem.ElemType.TheVariants.{Int}
use Rattle.dx_base.specs.Answers.{Answers, refused}
use Rattle.dx_base.specs.Elem.{in_range}
use Rattle.dx_expr_grammar.specs.declared.tree.Unary.{Unary}
use Rattle.dx_expr_grammar.specs.declared.tree.Unary.TheVariants as unary
use Rattle.dx_expr_grammar.specs.declared.tree.Binary.{Binary}
use Rattle.dx_expr_grammar.specs.declared.tree.Binary.TheVariants as binary
use Rattle.dx_expr_grammar.specs.declared.tree.Expression.{Expression, roll-Expression, out-Expression}
use Rattle.dx_expr_grammar.specs.declared.tree.Expression.TheViews.{roll-out-Expression}
use Rattle.dx_expr_grammar.specs.declared.tree.Expression.TheVariants as e
use Rattle.dx_expr_grammar.specs.declared.tree.Expression.TheVariants.{rolls-Number, rolls-Input, rolls-Unary, rolls-Binary, rolls-Choice, rolls-Part, rolls-Vector}
use Rattle.dx_expr_grammar.specs.declared.tree.Expression.TheOpen.{Expression-F}
use Rattle.dx_expr.specs.declared.fault.ItemFault.{ItemFault}
use Rattle.dx_expr.specs.declared.fault.ItemFault.TheVariants.{DivisionByZero}
use Rattle.dx_expr.specs.declared.operators.Sides.{Sides}
use Rattle.dx_expr.specs.declared.operators.Sides.TheVariants as sides
use Rattle.dx_expr.specs.Value.{Inputs, Outcome, Values, value_of, values_by, sides_of, side_by_side, places, dot_product, dot_from, with_product, decided, joined, size, each, checked, alone, is_int, is_zero, truth, the_value, unary_value, binary_value, value_at, ◌>>=◌}
use Rattle.dx_expr.proofs.Nodes.{nodes, in_left, in_right, in_one, in_other, in_part, in_vector, in_parts}
use Rattle.dx_expr.proofs.Equations.{value_number, value_input, value_unary, value_binary, value_choice, value_part, value_vector}
use Rattle.dx_expr_eval.specs.Items.{all_values}

-- ---- single values

-- where there is a value, it is an int
abbrev IsIntIn : Outcome ℤ → Type 0
IsIntIn o = (v : ℤ) → o ≡ Ok v → is_int v ≡ true

checked_by : (t : Bool) (z : ℤ) → is_int z ≡ t → (v : ℤ) → checked z ≡ Ok v → is_int v ≡ true
checked_by true z is v h =
    let g : checked z ≡ Ok z = rw is refl in
    let e : z ≡ v = cc in
    ap is_int (sym e) ∙ is
checked_by false z is v h = absurd (let k = rw is at h in cc)

checked_int : (z : ℤ) → IsIntIn (checked z)
checked_int z = checked_by (is_int z) z refl

known_int : (z : ℤ) → is_int z ≡ true → IsIntIn (Ok z)
known_int z is v h = let e : z ≡ v = cc in ap is_int (sym e) ∙ is

truth_int : (t : Bool) → IsIntIn (Ok (truth t))
truth_int true = known_int (pos 1) refl
truth_int false = known_int (pos 0) refl

signum_int : (z : ℤ) → is_int (int_signum z) ≡ true
signum_int (pos n) = lt-ltb (min n 1) 2147483648 (omega arith)
signum_int (negsuc n) = refl

unary_int : (o : Unary) (v : ℤ) → IsIntIn (unary_value o v)
unary_int unary.Negate v = checked_int (neg_ℤ v)
unary_int unary.Not v = truth_int (is_zero v)
unary_int unary.Absolute v = checked_int (pos (unsigned_abs v))
unary_int unary.Sign v = known_int (int_signum v) (signum_int v)

unless_zero : (t : Bool) (f : ItemFault) (z : ℤ) → IsIntIn (if t then Err f else checked z)
unless_zero true f z v h = absurd cc
unless_zero false f z v h = checked_int z v h

one_int : (t : Bool) (a b : ℤ) → is_int a ≡ true → is_int b ≡ true → is_int (cond t a b) ≡ true
one_int true a b p q = p
one_int false a b p q = q

binary_int : (o : Binary) (a b : ℤ) → is_int a ≡ true → is_int b ≡ true → IsIntIn (binary_value o a b)
binary_int binary.Or a b p q = truth_int _
binary_int binary.And a b p q = truth_int _
binary_int binary.Equal a b p q = truth_int _
binary_int binary.NotEqual a b p q = truth_int _
binary_int binary.Less a b p q = truth_int _
binary_int binary.LessEqual a b p q = truth_int _
binary_int binary.Greater a b p q = truth_int _
binary_int binary.GreaterEqual a b p q = truth_int _
binary_int binary.Add a b p q = checked_int (a +ℤ b)
binary_int binary.Subtract a b p q = checked_int (a -ℤ b)
binary_int binary.Multiply a b p q = checked_int (a *ℤ b)
binary_int binary.Divide a b p q = unless_zero (is_zero b) DivisionByZero (int_div a b)
binary_int binary.Remainder a b p q = unless_zero (is_zero b) DivisionByZero (int_rem a b)
binary_int binary.Minimum a b p q = known_int (int_min a b) (one_int (int_lt b a) b a q p)
binary_int binary.Maximum a b p q = known_int (int_max a b) (one_int (int_lt b a) a b p q)
binary_int binary.Dot a b p q = checked_int (a *ℤ b)

-- ---- lists of values

abbrev Ints : Values → Type 0
Ints [] = Unit {0}
Ints (v ∷ vs) = (is_int v ≡ true) × Ints vs

abbrev AreIntsIn : Outcome Values → Type 0
AreIntsIn o = (vs : Values) → o ≡ Ok vs → Ints vs

made_of : {A B : Type 0} (o : Outcome A) (f : A → Outcome B) (b : B) → (o >>= f) ≡ Ok b → (a : A) × (o ≡ Ok a) × (f a ≡ Ok b)
made_of (Ok a) f b h = (a, refl, h)
made_of (Err fault) f b h = absurd cc

alone_ints : (v : ℤ) → is_int v ≡ true → AreIntsIn (alone v)
alone_ints v is vs h = let e : v ∷ [] ≡ vs = cc in subst Ints e (is, tt)

each_ints : {A : Type 0} (f : A → Outcome ℤ) (l : List A) → ((a : A) → IsIntIn (f a)) → AreIntsIn (each f l)
each_ints f [] is vs h = let e : [] ≡ vs = cc in subst Ints e tt
each_ints f (a ∷ rest) is vs h =
    let v = made_of (f a) (λ v. each f rest >>= λ more. Ok (v ∷ more)) vs h in
    let more = made_of (each f rest) (λ more. Ok (v.0 ∷ more)) vs v.2 in
    let e : v.0 ∷ more.0 ≡ vs = let h = more.2 in cc in
    subst Ints e (is a v.0 v.1, each_ints f rest is more.0 more.1)

append_ints : (xs ys : Values) → Ints xs → Ints ys → Ints (xs ++ ys)
append_ints [] ys p q = q
append_ints (x ∷ xs) ys p q = (p.0, append_ints xs ys p.1 q)

at_int : (vs : Values) (i : ℕ) → Ints vs → is_int (slice_index_or vs i (pos 0)) ≡ true
at_int [] i h = refl
at_int (v ∷ vs) zero h = h.0
at_int (v ∷ vs) (suc i) h = at_int vs i h.1

joined_ints : {A : Type 0} (f : A → Outcome Values) (l : List A) → ((i : ℕ) (d : A) → i < length l → AreIntsIn (f (get_or l i d))) → AreIntsIn (joined (map f l))
joined_ints f [] are vs h = let e : [] ≡ vs = cc in subst Ints e tt
joined_ints f (a ∷ l) are vs h =
    let r = made_of (f a) (λ x. joined (map f l) >>= λ xs. Ok (x ++ xs)) vs h in
    let more = made_of (joined (map f l)) (λ xs. Ok (r.0 ++ xs)) vs r.2 in
    let e : r.0 ++ more.0 ≡ vs = let g = more.2 in cc in
    subst Ints e (append_ints r.0 more.0 (are 0 a (omega arith) r.0 r.1) (joined_ints f l (λ i d below. are (suc i) d (omega arith)) more.0 more.1))

beside_ints : (f : ℤ → ℤ → Outcome ℤ) → ((a b : ℤ) → is_int a ≡ true → is_int b ≡ true → IsIntIn (f a b)) → (x y : Values) → Ints x → Ints y → AreIntsIn (side_by_side f x y)
beside_ints f is x y p q = each_ints (λ i. f (value_at x i) (value_at y i)) (range_with_len 0 (places x y)) (λ i. is (value_at x i) (value_at y i) (at_int x _ p) (at_int y _ q))

dot_int : (x y : Values) (sum : ℤ) (l : List ℕ) → is_int sum ≡ true → IsIntIn (dot_from x y sum l)
dot_int x y sum [] is = known_int sum is
dot_int x y sum (i ∷ l) is = λ v h.
    let r = made_of (with_product (value_at x i) (value_at y i) sum) (λ more. dot_from x y more l) v h in
    let product = value_at x i *ℤ value_at y i in
    let s = made_of (checked product) (λ p. checked (sum +ℤ p)) r.0 r.1 in
    dot_int x y r.0 l (checked_int (sum +ℤ s.0) r.0 s.2) v r.2

decided_ints : (y : Values) → AreIntsIn (decided y)
decided_ints y = alone_ints _ (truth_int _ _ refl)

-- ---- expressions

module _ (inputs : Inputs) (item : ℕ) where
  abbrev V : Expression → Outcome Values
  V a = value_of inputs item a

  pub record Law (x : Expression) : Type 0 where
    pub ints : AreIntsIn (V x)

  of_same : (x : Expression) (o : Outcome Values) → V x ≡ o → AreIntsIn o → Law x
  of_same x o is h = record { ints = λ vs g. h vs (sym is ∙ g) }

  part : (k : ℕ) (o : Outcome Values) → AreIntsIn o → AreIntsIn (o >>= λ x. alone (slice_index_or x k (pos 0)))
  part k o law vs h = let r = made_of o (λ x. alone (slice_index_or x k (pos 0))) vs h in alone_ints _ (at_int r.0 k (law r.0 r.1)) vs r.2

  unary_law : (o : Unary) (a : Outcome Values) → AreIntsIn (a >>= each (unary_value o))
  unary_law o a vs h = let r = made_of a (each (unary_value o)) vs h in each_ints (unary_value o) r.0 (unary_int o) vs r.2

  decides : (b : Outcome Values) → AreIntsIn (b >>= decided)
  decides b vs h = let r = made_of b decided vs h in decided_ints r.0 vs r.2

  either : (t : Bool) (a b : Outcome Values) → AreIntsIn a → AreIntsIn b → AreIntsIn (if t then a else b)
  either true a b p q = p
  either false a b p q = q

  sides_law : (k : Sides) (o : Binary) (a b : Outcome Values) → AreIntsIn a → AreIntsIn b → AreIntsIn (values_by k o a b)
  sides_law sides.UnlessTrue o a b p q vs h =
      let r = made_of a (λ x. if is_zero (the_value x) then (b >>= decided) else alone (pos 1)) vs h in
      either (is_zero (the_value r.0)) (b >>= decided) (alone (pos 1)) (decides b) (alone_ints (pos 1) refl) vs r.2
  sides_law sides.IfTrue o a b p q vs h =
      let r = made_of a (λ x. if is_zero (the_value x) then alone (pos 0) else (b >>= decided)) vs h in
      either (is_zero (the_value r.0)) (alone (pos 0)) (b >>= decided) (alone_ints (pos 0) refl) (decides b) vs r.2
  sides_law sides.Vectors o a b p q vs h =
      let r = made_of a (λ x. b >>= λ y. dot_product x y) vs h in
      let l = made_of b (dot_product r.0) vs r.2 in
      let d = made_of (dot_from r.0 l.0 (pos 0) (range_with_len 0 (length r.0))) alone vs l.2 in
      alone_ints d.0 (dot_int r.0 l.0 (pos 0) (range_with_len 0 (length r.0)) refl d.0 d.1) vs d.2
  sides_law sides.Both o a b p q vs h =
      let r = made_of a (λ x. b >>= λ y. side_by_side (binary_value o) x y) vs h in
      let l = made_of b (side_by_side (binary_value o) r.0) vs r.2 in
      beside_ints (binary_value o) (binary_int o) r.0 l.0 (p r.0 r.1) (q l.0 l.1) vs l.2

  choice : (c a b : Outcome Values) → AreIntsIn a → AreIntsIn b → AreIntsIn (c >>= λ x. if is_zero (the_value x) then b else a)
  choice c a b p q vs h = let r = made_of c (λ x. if is_zero (the_value x) then b else a) vs h in either (is_zero (the_value r.0)) b a q p vs r.2

  number : (n : ℕ) → AreIntsIn (checked (pos n) >>= alone)
  number n vs h = let r = made_of (checked (pos n)) alone vs h in alone_ints r.0 (checked_int (pos n) r.0 r.1) vs r.2

  -- of a kind of expression, by its parts
  layer_law : (l : Expression-F Expression) → ((a : Expression) → nodes a < nodes (roll-Expression l) → Law a) → Law (roll-Expression l)
  layer_law (Expression-F.Number n) laws = subst Law (sym (rolls-Number n)) (of_same (e.Number n) _ (value_number inputs item n) (number n))
  layer_law (Expression-F.Input k) laws =
      subst Law (sym (rolls-Input k)) (of_same (e.Input k) _ (value_input inputs item k) (each_ints (λ place. checked (inputs.value k item place)) (range_with_len 0 (size (inputs.shape k))) (λ place. checked_int (inputs.value k item place))))
  layer_law (Expression-F.Unary o a) laws = subst Law (sym (rolls-Unary o a)) (of_same (e.Unary o a) _ (value_unary inputs item o a) (unary_law o (V a)))
  layer_law (Expression-F.Binary o a b) laws =
      subst Law (sym (rolls-Binary o a b)) (of_same (e.Binary o a b) _ (value_binary inputs item o a b)
      (sides_law (sides_of o) o (V a) (V b) (laws a (in_left _ o a b a (rolls-Binary o a b) refl)).ints (laws b (in_right _ o a b b (rolls-Binary o a b) refl)).ints))
  layer_law (Expression-F.Choice c a b) laws =
      subst Law (sym (rolls-Choice c a b)) (of_same (e.Choice c a b) _ (value_choice inputs item c a b)
      (choice (V c) (V a) (V b) (laws a (in_one _ c a b a (rolls-Choice c a b) refl)).ints (laws b (in_other _ c a b b (rolls-Choice c a b) refl)).ints))
  layer_law (Expression-F.Part a k) laws =
      subst Law (sym (rolls-Part a k)) (of_same (e.Part a k) _ (value_part inputs item a k) (part k (V a) (laws a (in_part _ a k a (rolls-Part a k) refl)).ints))
  layer_law (Expression-F.Vector parts) laws =
      subst Law (sym (rolls-Vector parts)) (of_same (e.Vector parts) _ (value_vector inputs item parts)
      (joined_ints V parts (λ i d below.
      let h = in_parts parts i d (get_or parts i d) below refl in
      let g = in_vector (roll-Expression (Expression-F.Vector parts)) parts parts (rolls-Vector parts) refl in
      (laws (get_or parts i d) (omega arith)).ints)))

  by_size : (n : ℕ) (x : Expression) → nodes x < n → Law x
  by_size zero x h = absurd (omega arith)
  by_size (suc n) x h = subst Law (roll-out-Expression x) (layer_law (out-Expression x) (λ a below. let g : nodes (roll-Expression (out-Expression x)) ≡ nodes x = ap nodes (roll-out-Expression x) in by_size n a (omega arith)))

value_ints : (inputs : Inputs) (item : ℕ) (x : Expression) → AreIntsIn (value_of inputs item x)
value_ints inputs item x = (by_size inputs item (suc (nodes x)) x (omega arith)).ints

-- ---- all items

int_in_range : (v : ℤ) → is_int v ≡ true → in_range Int v ≡ true
int_in_range (pos n) h = grind (arith, ints)
int_in_range (negsuc n) h = grind (arith, ints)

ints_in_range : (vs : Values) → Ints vs → list_all (in_range Int) vs ≡ true
ints_in_range [] h = refl
ints_in_range (v ∷ vs) h = both_true (int_in_range v h.0) (ints_in_range vs h.1)

-- all values lie in the int range
pub all_ints : (inputs : Inputs) (x : Expression) (n : ℕ) (r : Result Values (Fail ItemFault)) → Answers refused (all_values inputs x n) r → IfOk r (λ vs. list_all (in_range Int) vs ≡ true)
all_ints inputs x n (Ok vs) h = ints_in_range vs (joined_ints (λ item. value_of inputs item x) (range_with_len 0 n) (λ i d below. value_ints inputs (get_or (range_with_len 0 n) i d) x) vs h)
all_ints inputs x n (Err f) h = tt
