-- Five numbers that are put behind each other.
use Rattle.std.proofs.Common.{◌≡◌, ℤ, List, [], ◌∷◌, ◌++◌, refl}
use Rattle.std.specs.Prelude.{Option}
use Rattle.dx_base.specs.Object.{Tree}
use Rattle.dx_base.specs.ObjectNumbers.{number_value}

pub five : (m1 m2 m3 m4 m5 w1 w2 w3 w4 w5 : ℤ) (r0 r1 r2 r3 r4 r5 : List (Option Tree)) → r0 ≡ [] →
    r1 ≡ r0 ++ number_value m1 ∷ [] → r2 ≡ r1 ++ number_value m2 ∷ [] → r3 ≡ r2 ++ number_value m3 ∷ [] → r4 ≡ r3 ++ number_value m4 ∷ [] → r5 ≡ r4 ++ number_value m5 ∷ [] →
    m1 ≡ w1 → m2 ≡ w2 → m3 ≡ w3 → m4 ≡ w4 → m5 ≡ w5 →
    r5 ≡ number_value w1 ∷ number_value w2 ∷ number_value w3 ∷ number_value w4 ∷ number_value w5 ∷ []
five m1 m2 m3 m4 m5 w1 w2 w3 w4 w5 r0 r1 r2 r3 r4 r5 p0 p1 p2 p3 p4 p5 e1 e2 e3 e4 e5 = rw (p5, p4, p3, p2, p1, p0, e1, e2, e3, e4, e5) refl
