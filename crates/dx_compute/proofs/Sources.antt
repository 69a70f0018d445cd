-- Arrays that go together: each has as many items as there are, or one.
use Rattle.std.proofs.Common.{◌≡◌, ℕ, zero, suc, Bool, true, false, List, [], ◌∷◌, Option, Some, None, refl, sym, ap, ◌∙◌}
use Rattle.std.specs.Prelude.{◌==◌, ◌&&◌}
use Rattle.dx_base.specs.Array.{ArrayData}
use Rattle.dx_compute_meaning.specs.Arrays.{Arrays, array_at, item_counts, other_count, before_counts, fits_in}
use Rattle.dx_compute_meaning.specs.Operands.{are_all}

alike_by : (m : Option ℕ) (n : ℕ) (ns : List ℕ) → are_all n (before_counts m ns) ≡ true → (fits_in n m ≡ true) × (are_all n ns ≡ true)
alike_by None n ns h = (refl, h)
alike_by (Some m) n ns h = by (m == n) refl h
  where
    by : (t : Bool) → (m == n) ≡ t → (t && are_all n ns) ≡ true → ((m == n) ≡ true) × (are_all n ns ≡ true)
    by true is h = (is, h)
    by false is h = absurd cc

pub alike_at : (arrays : Arrays) (n k : ℕ) (a : ArrayData) → are_all n (item_counts arrays) ≡ true → array_at arrays k ≡ Some a → fits_in n (other_count (Some a)) ≡ true
alike_at [] n k a h e = absurd cc
alike_at (b ∷ arrays) n zero a h e = ap (λ o. fits_in n (other_count o)) (sym e) ∙ (alike_by (other_count b) n (item_counts arrays) h).0
alike_at (b ∷ arrays) n (suc k) a h e = alike_at arrays n k a (alike_by (other_count b) n (item_counts arrays) h).1 e
