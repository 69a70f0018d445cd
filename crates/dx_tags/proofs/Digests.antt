-- Bytes that have different numbers are different.
use Rattle.std.proofs.Common.{◌≡◌, ℕ, false, List, ap}
use Rattle.std.proofs.lemmas.Bool.{false_from_ne_true}
use Rattle.std.specs.Prelude.{nat_eq}
use Rattle.std.specs.Cmp.Lexicographic.{pointwise, bytes_decides}
use Rattle.dx_tags.specs.Digest.{digest}

pub different : (x y : List ℕ) → (digest x ≡ digest y → ⊥) → pointwise nat_eq x y ≡ false
different x y apart = false_from_ne_true (pointwise nat_eq x y) (λ e. apart (ap digest ((bytes_decides x y).0 e)))
