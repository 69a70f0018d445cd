-- Runs of items one after the other: where the first has no fault, the rest decides.
use Rattle.std.proofs.Common.{◌≡◌, ℕ, ◌+◌, ◌-◌, ◌≤◌, ◌++◌, Ok, Err, refl, ap, ◌∙◌, arith}
use Rattle.std.specs.Prelude.{map}
use Rattle.std.specs.List.{range_with_len}
use Rattle.dx_expr_grammar.specs.declared.tree.Expression.{Expression}
use Rattle.dx_expr.specs.declared.fault.ItemFault.{ItemFault}
use Rattle.dx_expr.specs.Value.{Inputs, Outcome, Values, value_of, joined, ◌>>=◌}
use Rattle.dx_expr_eval.specs.Items.{all_values, values_from, faultless}
use Rattle.dx_expr_eval.proofs.Blocks.{joined_more, range_split}

module _ (inputs : Inputs) (e : Expression) where
  abbrev V : ℕ → Outcome Values
  V item = value_of inputs item e

  split : (from to n : ℕ) → from ≤ to → to ≤ n → values_from inputs e from n ≡ (values_from inputs e from to >>= λ y. values_from inputs e to n >>= λ z. Ok (y ++ z))
  split from to n h g =
      let k : n - from ≡ (to - from) + (n - to) = omega (arith, h, g) in
      let f : from + (to - from) ≡ to = omega (arith, h) in
      ap (λ m. joined (map V (range_with_len from m))) k
      ∙ ap (λ l. joined (map V l)) (range_split from (to - from) (n - to) ∙ ap (λ m. range_with_len from (to - from) ++ range_with_len m (n - to)) f)
      ∙ joined_more V (range_with_len from (to - from)) (range_with_len to (n - to))

  -- all items are those from 0 on
  pub from_zero : (n : ℕ) → values_from inputs e 0 n ≡ all_values inputs e n
  from_zero n = let k : n - 0 ≡ n = omega arith in ap (λ m. joined (map V (range_with_len 0 m))) k

  -- a run of no item has no fault
  pub none_left : (n : ℕ) → faultless (values_from inputs e n n) ≡ Ok tt
  none_left n = let k : n - n ≡ 0 = omega arith in ap (λ m. faultless (joined (map V (range_with_len n m)))) k

  -- a run without a fault is left out
  pub run_clear : (from to n : ℕ) → from ≤ to → to ≤ n → faultless (values_from inputs e from to) ≡ Ok tt → faultless (values_from inputs e from n) ≡ faultless (values_from inputs e to n)
  run_clear from to n h g is = ap faultless (split from to n h g) ∙ by (values_from inputs e from to) (values_from inputs e to n) is
    where
      by : (o rest : Outcome Values) → faultless o ≡ Ok tt → faultless (o >>= λ y. rest >>= λ z. Ok (y ++ z)) ≡ faultless rest
      by (Ok y) (Ok z) is = refl
      by (Ok y) (Err fault) is = refl
      by (Err fault) rest is = absurd cc

  -- the fault of a run is that of all items from its first on
  pub run_fails : (from to n : ℕ) (fault : ItemFault) → from ≤ to → to ≤ n → faultless (values_from inputs e from to) ≡ Err fault → faultless (values_from inputs e from n) ≡ Err fault
  run_fails from to n fault h g is = ap faultless (split from to n h g) ∙ by (values_from inputs e from to) (values_from inputs e to n) is
    where
      by : (o rest : Outcome Values) → faultless o ≡ Err fault → faultless (o >>= λ y. rest >>= λ z. Ok (y ++ z)) ≡ Err fault
      by (Ok y) rest is = absurd cc
      by (Err other) rest is = is
