-- A value by its place.
use Rattle.std.proofs.Common.{◌≡◌, ◌≤◌, ℕ, zero, suc, List, [], ◌∷◌, Option, Some, None, length, refl, arith}
use Rattle.std.specs.Prelude.{slice_get}
use Rattle.dx_base.specs.Object.{Tree}
use Rattle.dx_objects.specs.Values.{value_at}

pub value_at-past : (vs : List (Option Tree)) (i : ℕ) → length vs ≤ i → value_at vs i ≡ None
value_at-past [] i h = refl
value_at-past (v ∷ vs) zero h = absurd (omega (arith, h))
value_at-past (v ∷ vs) (suc i) h = value_at-past vs i (omega (arith, h))

pub value_at-here : (vs : List (Option Tree)) (i : ℕ) (v : Option Tree) → slice_get vs i ≡ Some v → value_at vs i ≡ v
value_at-here [] i v e = cc
value_at-here (w ∷ vs) zero v e = let same : w ≡ v = cc in same
value_at-here (w ∷ vs) (suc i) v e = value_at-here vs i v e

pub ruleset values = (value_at-past, value_at-here)
