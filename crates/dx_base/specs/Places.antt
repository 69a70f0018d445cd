-- What stands at the places of a sparse list.
use Rattle.std.specs.Prelude.{◌≡◌, ◌<◌, ℕ, zero, suc, true, List, [], ◌∷◌, map, Option, Bool, is_some}
use Rattle.std.specs.Ordering.{nat_cmp}
use Rattle.std.specs.BTreeMap.{BTreeMap, get}

-- what so many places have, from place i
abbrev pub at_places : {T : Type 0} → (ℕ → Option T) → ℕ → ℕ → List (Option T)
at_places at i zero = []
at_places at i (suc n) = at i ∷ at_places at (suc i) n

-- no value is at a place that isn't there
abbrev pub IsWithin : {T : Type 0} → ℕ → BTreeMap ℕ T → Type 0
IsWithin count filled = (place : ℕ) → is_some (get nat_cmp filled place) ≡ true → place < count

-- a list that only tells places apart: those that have a mark and those that have none
abbrev pub Marks : Type 0
Marks = List (Option (Unit {0}))

-- which places have a value
abbrev pub flags : {T : Type 0} → List (Option T) → List Bool
flags xs = map is_some xs
