-- What a block gives of each kind of expression.
use Rattle.std.proofs.Common.{◌≡◌, ℕ, Bool, true, false, ℤ, pos, List, [], ◌∷◌, length, take, replicate, Some, Ok, Err, refl, ap, ◌∙◌, arith}
use Rattle.std.specs.List.{range_with_len}
use Rattle.std.specs.Prelude.{map, if◌then◌else◌}
use Rattle.dx_expr_grammar.specs.declared.tree.Unary.{Unary}
use Rattle.dx_expr_grammar.specs.declared.tree.Binary.{Binary}
use Rattle.dx_expr_grammar.specs.declared.tree.Binary.TheVariants as binary
use Rattle.dx_expr_grammar.specs.declared.tree.Expression.{Expression}
use Rattle.dx_expr_grammar.specs.declared.tree.Expression.TheVariants as e
use Rattle.dx_expr.specs.declared.operators.Sides.TheVariants as sides
use Rattle.dx_expr.specs.Shape.{shape_of}
use Rattle.dx_expr.specs.Value.{Inputs, Outcome, Values, value_of, values_by, sides_of, side_by_side, unary_value, binary_value, each, input_values, checked, alone, is_zero, the_value, ◌>>=◌}
use Rattle.dx_expr.specs.Value as spec
use Rattle.dx_expr.proofs.Equations.{value_number, value_input, value_unary, value_binary, value_choice}
use Rattle.dx_expr.proofs.Lengths.{value_count}
use Rattle.dx_expr_blocks.specs.Block.{Run, block_of, single, up_to, both, ended, picked, passes, merged, decided}
use Rattle.dx_expr_blocks.proofs.Laws.{both_law, merged_law, each_law, map_same, map_constant}

-- ---- single values

abbrev IsOne : Outcome Values → Type 0
IsOne o = (vs : Values) → o ≡ Ok vs → length vs ≡ 1

single_alone : (o : Outcome ℤ) → single (o >>= λ v. Ok (v ∷ [])) ≡ o
single_alone (Ok v) = refl
single_alone (Err f) = refl

single_each : (u : ℤ → Outcome ℤ) (a : Outcome Values) → IsOne a → single (a >>= each u) ≡ (single a >>= u)
single_each u (Err f) h = refl
single_each u (Ok []) h = absurd (omega (arith, h [] refl))
single_each u (Ok (v ∷ [])) h = single_alone (u v)
single_each u (Ok (v ∷ w ∷ vs)) h = absurd (omega (arith, h (v ∷ w ∷ vs) refl))

single_both : (h : ℤ → ℤ → Outcome ℤ) (a b : Outcome Values) → IsOne a → IsOne b → single (a >>= λ x. b >>= λ y. side_by_side h x y) ≡ (single a >>= λ x. single b >>= λ y. h x y)
single_both h (Err f) b one other = refl
single_both h (Ok []) b one other = absurd (omega (arith, one [] refl))
single_both h (Ok (v ∷ [])) (Err f) one other = refl
single_both h (Ok (v ∷ [])) (Ok []) one other = absurd (omega (arith, other [] refl))
single_both h (Ok (v ∷ [])) (Ok (w ∷ [])) one other = single_alone (h v w)
single_both h (Ok (v ∷ [])) (Ok (w ∷ z ∷ ws)) one other = absurd (omega (arith, other (w ∷ z ∷ ws) refl))
single_both h (Ok (v ∷ w ∷ vs)) b one other = absurd (omega (arith, one (v ∷ w ∷ vs) refl))

single_if : (z : Bool) (a b : Outcome Values) → single (if z then b else a) ≡ (if z then single b else single a)
single_if true a b = refl
single_if false a b = refl

single_choice : (c a b : Outcome Values) → single (c >>= λ x. if is_zero (the_value x) then b else a) ≡ (single c >>= λ x. if is_zero x then single b else single a)
single_choice (Err f) a b = refl
single_choice (Ok vs) a b = single_if (is_zero (the_value vs)) a b

single_decided : (b : Outcome Values) → single (b >>= spec.decided) ≡ (single b >>= decided)
single_decided (Err f) = refl
single_decided (Ok vs) = refl

one_or : (z : Bool) (b : Outcome Values) → single (if z then (b >>= spec.decided) else alone (pos 1)) ≡ (if z then (single b >>= decided) else Ok (pos 1))
one_or true b = single_decided b
one_or false b = refl

single_or : (a b : Outcome Values) → single (a >>= λ x. if is_zero (the_value x) then (b >>= spec.decided) else alone (pos 1)) ≡ (single a >>= λ x. if is_zero x then (single b >>= decided) else Ok (pos 1))
single_or (Err f) b = refl
single_or (Ok vs) b = one_or (is_zero (the_value vs)) b

one_and : (z : Bool) (b : Outcome Values) → single (if z then alone (pos 0) else (b >>= spec.decided)) ≡ (if z then Ok (pos 0) else (single b >>= decided))
one_and true b = refl
one_and false b = single_decided b

single_and : (a b : Outcome Values) → single (a >>= λ x. if is_zero (the_value x) then alone (pos 0) else (b >>= spec.decided)) ≡ (single a >>= λ x. if is_zero x then Ok (pos 0) else (single b >>= decided))
single_and (Err f) b = refl
single_and (Ok vs) b = one_and (is_zero (the_value vs)) b

-- ---- blocks

-- the decisions of a run
abbrev pub decisions : Run ℤ → Run ℤ
decisions run = ended (up_to (map decided run.values)) run.fault

module _ (inputs : Inputs) where
  abbrev V : Expression → ℕ → Outcome Values
  V x item = value_of inputs item x

  abbrev IsSingle : Expression → Type 0
  IsSingle x = shape_of inputs.shape x ≡ Some []

  is_one : (x : Expression) (item : ℕ) → IsSingle x → IsOne (V x item)
  is_one x item h vs e = value_count inputs item x [] vs h e

  pub block_number : (n : ℕ) (items : List ℕ) → block_of inputs (e.Number n) items ≡ up_to (replicate (length items) (checked (pos n)))
  block_number n items =
      ap up_to (map_same (λ i. single (V (e.Number n) i)) (λ i. checked (pos n)) items (λ i. ap single (value_number inputs i n) ∙ single_alone (checked (pos n))) ∙ map_constant (checked (pos n)) items)

  one_input : (k item : ℕ) → inputs.shape k ≡ [] → single (input_values inputs item k) ≡ checked (inputs.value k item 0)
  one_input k item h = ap (λ s. single (each (λ place. checked (inputs.value k item place)) (range_with_len 0 (spec.size s)))) h ∙ single_alone (checked (inputs.value k item 0))

  pub block_input : (k : ℕ) (items : List ℕ) → inputs.shape k ≡ [] → block_of inputs (e.Input k) items ≡ up_to (map (λ i. checked (inputs.value k i 0)) items)
  block_input k items h =
      ap up_to (map_same (λ i. single (V (e.Input k) i)) (λ i. checked (inputs.value k i 0)) items (λ i. ap single (value_input inputs i k) ∙ one_input k i h))

  pub block_unary : (o : Unary) (a : Expression) (items : List ℕ) → IsSingle a → block_of inputs (e.Unary o a) items ≡ ended (up_to (map (unary_value o) (block_of inputs a items).values)) (block_of inputs a items).fault
  block_unary o a items h =
      ap up_to (map_same (λ i. single (V (e.Unary o a) i)) (λ i. single (V a i) >>= unary_value o) items (λ i. ap single (value_unary inputs i o a) ∙ single_each (unary_value o) (V a i) (is_one a i h)))
      ∙ each_law (unary_value o) (λ i. single (V a i)) items

  pub block_both : (o : Binary) (a b : Expression) (items : List ℕ) → sides_of o ≡ sides.Both → IsSingle a → IsSingle b → block_of inputs (e.Binary o a b) items ≡ both (binary_value o) (block_of inputs a items) (block_of inputs b (take (length (block_of inputs a items).values) items))
  block_both o a b items s h g =
      ap up_to (map_same (λ i. single (V (e.Binary o a b) i)) (λ i. single (V a i) >>= λ x. single (V b i) >>= λ y. binary_value o x y) items
      (λ i. ap single (value_binary inputs i o a b ∙ ap (λ k. values_by k o (V a i) (V b i)) s) ∙ single_both (binary_value o) (V a i) (V b i) (is_one a i h) (is_one b i g)))
      ∙ both_law (λ i. single (V a i)) (λ i. single (V b i)) (binary_value o) items

  pub block_or : (a b : Expression) (items : List ℕ) →
      let cs = block_of inputs a items in
      let ones = up_to (replicate (length (picked (passes true) cs.values items)) (checked (pos 1))) in
      let others = decisions (block_of inputs b (picked (passes false) cs.values items)) in
      block_of inputs (e.Binary binary.Or a b) items ≡ merged cs.values cs.fault ones.values ones.fault others.values others.fault
  block_or a b items =
      let cs = block_of inputs a items in
      let m = λ (ones others : Run ℤ). merged cs.values cs.fault ones.values ones.fault others.values others.fault in
      ap up_to (map_same (λ i. single (V (e.Binary binary.Or a b) i)) (λ i. single (V a i) >>= λ x. if is_zero x then (single (V b i) >>= decided) else Ok (pos 1)) items
      (λ i. ap single (value_binary inputs i binary.Or a b) ∙ single_or (V a i) (V b i)))
      ∙ merged_law (λ i. single (V a i)) (λ i. Ok (pos 1)) (λ i. single (V b i) >>= decided) items
      ∙ ap (λ r. m (up_to (map (λ i. checked (pos 1)) (picked (passes true) cs.values items))) r) (each_law decided (λ i. single (V b i)) (picked (passes false) cs.values items)) ∙ ap (λ r. m r (decisions (block_of inputs b (picked (passes false) cs.values items)))) (ap up_to (map_constant (checked (pos 1)) (picked (passes true) cs.values items)))

  pub block_and : (a b : Expression) (items : List ℕ) →
      let cs = block_of inputs a items in
      let ones = decisions (block_of inputs b (picked (passes true) cs.values items)) in
      let others = up_to (replicate (length (picked (passes false) cs.values items)) (checked (pos 0))) in
      block_of inputs (e.Binary binary.And a b) items ≡ merged cs.values cs.fault ones.values ones.fault others.values others.fault
  block_and a b items =
      let cs = block_of inputs a items in
      let m = λ (ones others : Run ℤ). merged cs.values cs.fault ones.values ones.fault others.values others.fault in
      ap up_to (map_same (λ i. single (V (e.Binary binary.And a b) i)) (λ i. single (V a i) >>= λ x. if is_zero x then Ok (pos 0) else (single (V b i) >>= decided)) items
      (λ i. ap single (value_binary inputs i binary.And a b) ∙ single_and (V a i) (V b i)))
      ∙ merged_law (λ i. single (V a i)) (λ i. single (V b i) >>= decided) (λ i. Ok (pos 0)) items
      ∙ ap (λ r. m r (up_to (map (λ i. checked (pos 0)) (picked (passes false) cs.values items)))) (each_law decided (λ i. single (V b i)) (picked (passes true) cs.values items)) ∙ ap (λ r. m (decisions (block_of inputs b (picked (passes true) cs.values items))) r) (ap up_to (map_constant (checked (pos 0)) (picked (passes false) cs.values items)))

  pub block_choice : (c a b : Expression) (items : List ℕ) →
      let cs = block_of inputs c items in
      let ones = block_of inputs a (picked (passes true) cs.values items) in
      let others = block_of inputs b (picked (passes false) cs.values items) in
      block_of inputs (e.Choice c a b) items ≡ merged cs.values cs.fault ones.values ones.fault others.values others.fault
  block_choice c a b items =
      ap up_to (map_same (λ i. single (V (e.Choice c a b) i)) (λ i. single (V c i) >>= λ x. if is_zero x then single (V b i) else single (V a i)) items
      (λ i. ap single (value_choice inputs i c a b) ∙ single_choice (V c i) (V a i) (V b i)))
      ∙ merged_law (λ i. single (V c i)) (λ i. single (V a i)) (λ i. single (V b i)) items
