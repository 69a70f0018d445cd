-- Changes with what they set once more.
use Rattle.std.proofs.Common.{◌≡◌, List, [], ◌∷◌, ◌++◌, length, refl, ap}
use Rattle.dx_ending.specs.declared.in_place.Ready.{Ready}
use Rattle.dx_ending.specs.InPlace.{IsShared, AreShared, changes_in}

pub changes_more : (rs : List Ready) (r : Ready) → changes_in (rs ++ r ∷ []) ≡ changes_in rs ++ r.change ∷ []
changes_more [] r = refl
changes_more (x ∷ xs) r = ap (λ cs. x.change ∷ cs) (changes_more xs r)

pub shared_more : (rs : List Ready) (r : Ready) → AreShared rs → IsShared r.change.held r.value → AreShared (rs ++ r ∷ [])
shared_more [] r a s = (s, tt)
shared_more (x ∷ xs) r a s = (a.0, shared_more xs r a.1 s)

pub none_left : {A : Type 0} (xs : List A) → length xs ≡ 0 → xs ≡ []
none_left [] e = refl
none_left (x ∷ xs) e = absurd (cc)
