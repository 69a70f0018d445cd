-- A member by its place.
use Rattle.std.proofs.Common.{◌≡◌, ◌<◌, ◌≤◌, ℕ, zero, suc, ℤ, pos, negsuc, ◌<ℤ◌, ◌≤ℤ◌, w64, of_z, List, [], ◌∷◌, Some, None, length, get_or, refl, arith}
use Rattle.std.proofs.lemmas.Int.{ints}
use Rattle.dx_base.specs.Object.{PartList}
use Rattle.dx_objects.specs.Shown.{parts_of}
use Rattle.dx_objects.specs.declared.object.Part.{Part}
use Rattle.dx_select.specs.Select.{at_place, at_number}

pub at_place-past : (ps : List Part) (i : ℕ) → length ps ≤ i → at_place (parts_of ps) i ≡ None
at_place-past [] i h = refl
at_place-past (p ∷ ps) zero h = absurd (omega (arith, h))
at_place-past (p ∷ ps) (suc i) h = at_place-past ps i (omega (arith, h))

pub at_place-here : (ps : List Part) (i : ℕ) (d : Part) → i < length ps → at_place (parts_of ps) i ≡ Some (get_or ps i d).object.value
at_place-here [] i d h = absurd (omega (arith, h))
at_place-here (p ∷ ps) zero d h = refl
at_place-here (p ∷ ps) (suc i) d h = at_place-here ps i d (omega (arith, h))

pub number_none : (n : ℤ) (ps : PartList) → n <ℤ pos 0 → at_number n ps ≡ None
number_none (pos i) ps h = absurd (omega (arith, ints, h))
number_none (negsuc i) ps h = refl

pub number_place : (n : ℤ) (ps : PartList) → pos 0 ≤ℤ n → at_number n ps ≡ at_place ps (of_z w64 n)
number_place (pos i) ps h = refl
number_place (negsuc i) ps h = absurd (omega (arith, ints, h))

pub ruleset numbers = (number_none, number_place)
