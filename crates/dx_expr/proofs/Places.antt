-- Loops over the places of an item's values: what a turn does.
use Rattle.std.proofs.Common.{◌≡◌, ℕ, suc, ◌+◌, ◌-◌, ◌<◌, [], ◌∷◌, ◌++◌, Ok, Err, refl, sym, ap, ◌∙◌, append_assoc, arith, ℤ}
use Rattle.std.specs.List.{range_with_len}
use Rattle.dx_expr.specs.declared.fault.ItemFault.{ItemFault}
use Rattle.dx_expr.specs.Value.{Outcome, Values, each, ◌>>=◌, with_product, value_at, dot_from}
use Rattle.dx_expr.specs.Evaluated.{behind}

pub range_next : (n place : ℕ) → place < n → range_with_len place (n - place) ≡ place ∷ range_with_len (place + 1) (n - (place + 1))
range_next n place h = let e : n - place ≡ suc (n - (place + 1)) = omega arith in ap (range_with_len place) e

-- one more value in front
behind_more : (found : Values) (v : ℤ) (r : Outcome Values) → behind found (r >>= λ vs. Ok (v ∷ vs)) ≡ behind (found ++ v ∷ []) r
behind_more found v (Ok vs) = ap (λ l. Ok l) (sym (append_assoc found (v ∷ []) vs))
behind_more found v (Err fault) = refl

module _ (f : ℕ → Outcome ℤ) (found : Values) (n place : ℕ) (below : place < n) where
  pub each_next : (v : ℤ) → f place ≡ Ok v → behind found (each f (range_with_len place (n - place))) ≡ behind (found ++ v ∷ []) (each f (range_with_len (place + 1) (n - (place + 1))))
  each_next v e =
      ap (λ l. behind found (each f l)) (range_next n place below)
      ∙ ap (λ (r : Outcome ℤ). behind found (r >>= λ v. each f (range_with_len (place + 1) (n - (place + 1))) >>= λ vs. Ok (v ∷ vs))) e
      ∙ behind_more found v (each f (range_with_len (place + 1) (n - (place + 1))))

  pub each_fails : (fault : ItemFault) → f place ≡ Err fault → behind found (each f (range_with_len place (n - place))) ≡ Err fault
  each_fails fault e =
      ap (λ l. behind found (each f l)) (range_next n place below)
      ∙ ap (λ (r : Outcome ℤ). behind found (r >>= λ v. each f (range_with_len (place + 1) (n - (place + 1))) >>= λ vs. Ok (v ∷ vs))) e

-- what a sum of products goes on with
abbrev pub dot_rest : Values → Values → ℕ → ℕ → ℤ → Outcome ℤ
dot_rest x y n place sum = dot_from x y sum (range_with_len place (n - place))

pub dot_next : (x y : Values) (n place : ℕ) (sum : ℤ) → place < n → dot_rest x y n place sum ≡ (with_product (value_at x place) (value_at y place) sum >>= λ more. dot_rest x y n (place + 1) more)
dot_next x y n place sum h = ap (dot_from x y sum) (range_next n place h)
