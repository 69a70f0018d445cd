-- Blocks of items one after the other: what they give together is what all their items give.
use Rattle.std.proofs.Common.{◌≡◌, ℕ, zero, suc, ◌+◌, ◌-◌, ◌≤◌, List, [], ◌∷◌, ◌++◌, ℤ, length, Option, Some, None, Ok, Err, refl, sym, ap, ◌∙◌, append_assoc, arith}
use Rattle.std.specs.Prelude.{map}
use Rattle.std.specs.List.{range_with_len}
use Rattle.dx_expr_grammar.specs.declared.tree.Expression.{Expression}
use Rattle.dx_expr.specs.declared.fault.ItemFault.{ItemFault}
use Rattle.dx_expr.specs.Shape.{shape_of}
use Rattle.dx_expr.specs.Value.{Inputs, Outcome, Values, value_of, joined, ◌>>=◌}
use Rattle.dx_expr.specs.Evaluated.{behind}
use Rattle.dx_expr.proofs.Lengths.{value_count}
use Rattle.dx_expr_blocks.specs.Block.{Run, run_of, before, up_to, single, block_of}
use Rattle.dx_expr_eval.specs.Items.{faultless}

abbrev with_fault : Option ItemFault → Values → Outcome Values
with_fault None vs = Ok vs
with_fault (Some fault) vs = Err fault

-- a run as all its values, or its fault
abbrev as_outcome : Run ℤ → Outcome Values
as_outcome run = with_fault run.fault run.values

abbrev IsOne : Outcome Values → Type 0
IsOne o = (vs : Values) → o ≡ Ok vs → length vs ≡ 1

front_outcome : (v : ℤ) (fault : Option ItemFault) (vs : Values) → (with_fault fault vs >>= λ xs. Ok (v ∷ xs)) ≡ with_fault fault (v ∷ vs)
front_outcome v None vs = refl
front_outcome v (Some fault) vs = refl

joined_by : (o : Outcome Values) (rest : Outcome Values) (run : Run ℤ) → IsOne o → rest ≡ as_outcome run → (o >>= λ x. rest >>= λ xs. Ok (x ++ xs)) ≡ as_outcome (before (single o) run)
joined_by (Err fault) rest run one h = refl
joined_by (Ok []) rest run one h = absurd (omega (arith, one [] refl))
joined_by (Ok (v ∷ [])) rest run one h = ap (λ r. r >>= λ xs. Ok (v ∷ xs)) h ∙ front_outcome v run.fault run.values
joined_by (Ok (v ∷ w ∷ vs)) rest run one h = absurd (omega (arith, one (v ∷ w ∷ vs) refl))

joined_run : (f : ℕ → Outcome Values) → ((i : ℕ) → IsOne (f i)) → (items : List ℕ) → joined (map f items) ≡ as_outcome (up_to (map (λ i. single (f i)) items))
joined_run f one [] = refl
joined_run f one (i ∷ items) = joined_by (f i) (joined (map f items)) (up_to (map (λ i. single (f i)) items)) (one i) (joined_run f one items)

-- the items of one range and those behind it
pub joined_more : (f : ℕ → Outcome Values) (items others : List ℕ) → joined (map f (items ++ others)) ≡ (joined (map f items) >>= λ x. joined (map f others) >>= λ y. Ok (x ++ y))
joined_more f [] others = sym (whole (joined (map f others)))
  where
    whole : (o : Outcome Values) → (o >>= λ y. Ok ([] ++ y)) ≡ o
    whole (Ok y) = refl
    whole (Err fault) = refl
joined_more f (i ∷ items) others = ap (λ rest. f i >>= λ x. rest >>= λ xs. Ok (x ++ xs)) (joined_more f items others) ∙ by (f i) (joined (map f items)) (joined (map f others))
  where
    by : (o a b : Outcome Values) → (o >>= λ x. (a >>= λ y. b >>= λ z. Ok (y ++ z)) >>= λ xs. Ok (x ++ xs)) ≡ ((o >>= λ x. a >>= λ xs. Ok (x ++ xs)) >>= λ y. b >>= λ z. Ok (y ++ z))
    by (Err fault) a b = refl
    by (Ok x) (Err fault) b = refl
    by (Ok x) (Ok y) (Err fault) = refl
    by (Ok x) (Ok y) (Ok z) = ap (λ l. Ok l) (sym (append_assoc x y z))

pub range_split : (from m n : ℕ) → range_with_len from (m + n) ≡ range_with_len from m ++ range_with_len (from + m) n
range_split from zero n =
    let z : 0 + n ≡ n = omega arith in
    let e : from ≡ from + 0 = omega arith in
    ap (range_with_len from) z ∙ ap (λ k. range_with_len k n) e
range_split from (suc m) n =
    let e : suc m + n ≡ suc (m + n) = omega arith in
    let g : from + 1 + m ≡ from + suc m = omega arith in
    rw e (ap (λ l. from ∷ l) (range_split (from + 1) m n ∙ ap (λ k. range_with_len (from + 1) m ++ range_with_len k n) g))

module _ (inputs : Inputs) (x : Expression) (is : shape_of inputs.shape x ≡ Some []) where
  abbrev V : ℕ → Outcome Values
  V item = value_of inputs item x

  one : (i : ℕ) → IsOne (V i)
  one i vs h = value_count inputs i x [] vs is h

  abbrev rest : ℕ → ℕ → Outcome Values
  rest from n = joined (map V (range_with_len from (n - from)))

  split : (from to n : ℕ) → from ≤ to → to ≤ n → rest from n ≡ (as_outcome (block_of inputs x (range_with_len from (to - from))) >>= λ y. rest to n >>= λ z. Ok (y ++ z))
  split from to n h g =
      let e : n - from ≡ (to - from) + (n - to) = omega arith in
      let f : from + (to - from) ≡ to = omega arith in
      ap (λ k. joined (map V (range_with_len from k))) e ∙ ap (λ l. joined (map V l)) (range_split from (to - from) (n - to) ∙ ap (λ k. range_with_len from (to - from) ++ range_with_len k (n - to)) f)
      ∙ joined_more V (range_with_len from (to - from)) (range_with_len to (n - to))
      ∙ ap (λ o. o >>= λ y. rest to n >>= λ z. Ok (y ++ z)) (joined_run V one (range_with_len from (to - from)))

  -- a block without a fault is done, and its values stand behind those before
  pub block_done : (found : Values) (from to n : ℕ) → from ≤ to → to ≤ n → (vs : Values) (fault : Option ItemFault) → fault ≡ None →
      block_of inputs x (range_with_len from (to - from)) ≡ run_of vs fault → behind found (rest from n) ≡ behind (found ++ vs) (rest to n)
  block_done found from to n h g vs fault none e =
      ap (λ o. behind found o) (split from to n h g ∙ ap (λ r. as_outcome r >>= λ y. rest to n >>= λ z. Ok (y ++ z)) (e ∙ ap (λ f. run_of vs f) none)) ∙ by (rest to n)
    where
      by : (o : Outcome Values) → behind found (o >>= λ z. Ok (vs ++ z)) ≡ behind (found ++ vs) o
      by (Ok z) = ap (λ l. Ok l) (sym (append_assoc found vs z))
      by (Err fault) = refl

  -- the fault of a block is that of all
  pub block_fails : (found : Values) (from to n : ℕ) → from ≤ to → to ≤ n → (vs : Values) (fault : ItemFault) →
      block_of inputs x (range_with_len from (to - from)) ≡ run_of vs (Some fault) → behind found (rest from n) ≡ Err fault
  block_fails found from to n h g vs fault e = ap (λ o. behind found o) (split from to n h g ∙ ap (λ r. as_outcome r >>= λ y. rest to n >>= λ z. Ok (y ++ z)) e)

  pub rest_fails : (from to n : ℕ) → from ≤ to → to ≤ n → (vs : Values) (fault : ItemFault) → block_of inputs x (range_with_len from (to - from)) ≡ run_of vs (Some fault) → rest from n ≡ Err fault
  rest_fails from to n h g vs fault e = split from to n h g ∙ ap (λ r. as_outcome r >>= λ y. rest to n >>= λ z. Ok (y ++ z)) e

  pub rest_clear : (from to n : ℕ) → from ≤ to → to ≤ n → (vs : Values) (fault : Option ItemFault) → fault ≡ None → block_of inputs x (range_with_len from (to - from)) ≡ run_of vs fault → faultless (rest from n) ≡ faultless (rest to n)
  rest_clear from to n h g vs fault none e = ap faultless (split from to n h g ∙ ap (λ r. as_outcome r >>= λ y. rest to n >>= λ z. Ok (y ++ z)) (e ∙ ap (λ f. run_of vs f) none)) ∙ by (rest to n)
    where
      by : (o : Outcome Values) → faultless (o >>= λ z. Ok (vs ++ z)) ≡ faultless o
      by (Ok z) = refl
      by (Err fault) = refl

  -- and where it has none it has as many values as items
  pub block_full : (from to : ℕ) (vs : Values) (fault : Option ItemFault) → fault ≡ None → block_of inputs x (range_with_len from (to - from)) ≡ run_of vs fault → length vs ≡ to - from
  block_full from to vs fault none e = full (range_with_len from (to - from)) vs (e ∙ ap (λ f. run_of vs f) none) ∙ range_length from (to - from)
    where
      range_length : (a n : ℕ) → length (range_with_len a n) ≡ n
      range_length a zero = refl
      range_length a (suc n) = ap suc (range_length (a + 1) n)

      full_by : (o : Outcome ℤ) (run : Run ℤ) (n : ℕ) → ((ws : Values) → run ≡ run_of ws None → length ws ≡ n) → (vs : Values) → before o run ≡ run_of vs None → length vs ≡ suc n
      full_by (Err fault) run n ih vs h = let e : Some fault ≡ None = ap (λ (r : Run ℤ). r.fault) h in absurd cc
      full_by (Ok v) run n ih vs h =
          let same : v ∷ run.values ≡ vs = ap (λ (r : Run ℤ). r.values) h in
          let none : run.fault ≡ None = ap (λ (r : Run ℤ). r.fault) h in
          sym (ap length same) ∙ ap suc (ih run.values (ap (λ f. run_of run.values f) none))

      full : (items : List ℕ) (vs : Values) → block_of inputs x items ≡ run_of vs None → length vs ≡ length items
      full [] vs h = sym (ap length (ap (λ (r : Run ℤ). r.values) h))
      full (i ∷ items) vs h = full_by (single (V i)) (block_of inputs x items) (length items) (full items) vs h
