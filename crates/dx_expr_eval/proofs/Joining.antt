-- Items one after the other: what has been found goes before what the rest gives.
use Rattle.std.proofs.Common.{◌≡◌, ℕ, suc, ◌+◌, ◌-◌, ◌*◌, ◌<◌, ◌∷◌, ◌++◌, Ok, Err, refl, sym, ap, append_assoc, arith}
use Rattle.std.specs.Prelude.{map}
use Rattle.std.specs.List.{range_with_len}
use Rattle.dx_expr.specs.declared.fault.ItemFault.{ItemFault}
use Rattle.dx_expr.specs.Value.{Outcome, Values, joined, ◌>>=◌}
use Rattle.dx_expr.specs.Evaluated.{behind}
use Rattle.dx_expr_eval.specs.Items.{faultless}

-- the items from one on are that one and those behind it
pub range_next : (from n : ℕ) → from < n → range_with_len from (n - from) ≡ from ∷ range_with_len (from + 1) (n - (from + 1))
range_next from n h = let e : n - from ≡ suc (n - (from + 1)) = omega (arith, h) in rw e refl

pub item_next : (f : ℕ → Outcome Values) (found : Values) (from n : ℕ) → from < n → (vs : Values) → f from ≡ Ok vs →
    behind found (joined (map f (range_with_len from (n - from)))) ≡ behind (found ++ vs) (joined (map f (range_with_len (from + 1) (n - (from + 1)))))
item_next f found from n h vs is =
    let rest = joined (map f (range_with_len (from + 1) (n - (from + 1)))) in
    rw (range_next from n h, is) (by rest)
  where
    by : (rest : Outcome Values) → behind found (rest >>= λ xs. Ok (vs ++ xs)) ≡ behind (found ++ vs) rest
    by (Ok xs) = ap (λ l. Ok l) (sym (append_assoc found vs xs))
    by (Err fault) = refl

pub item_fails : (f : ℕ → Outcome Values) (found : Values) (from n : ℕ) → from < n → (fault : ItemFault) → f from ≡ Err fault →
    behind found (joined (map f (range_with_len from (n - from)))) ≡ Err fault
item_fails f found from n h fault is = rw (range_next from n h, is) refl

pub fault_next : (f : ℕ → Outcome Values) (from n : ℕ) → from < n → (vs : Values) → f from ≡ Ok vs →
    faultless (joined (map f (range_with_len from (n - from)))) ≡ faultless (joined (map f (range_with_len (from + 1) (n - (from + 1)))))
fault_next f from n h vs is = rw (range_next from n h, is) (by (joined (map f (range_with_len (from + 1) (n - (from + 1))))))
  where
    by : (rest : Outcome Values) → faultless (rest >>= λ xs. Ok (vs ++ xs)) ≡ faultless rest
    by (Ok xs) = refl
    by (Err fault) = refl

pub next_row : (n w : ℕ) → (n + 1) * w ≡ n * w + w
next_row n w = omega arith
