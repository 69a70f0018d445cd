-- Chains of slots.
use Rattle.std.specs.Prelude.{◌≡◌, ◌⊎◌, ℕ, zero, suc, List, [], ◌∷◌, Option, Some, None, slice_get}
use Rattle.dx_cache.specs.declared.chains.Link.{Link}
use Rattle.dx_cache.specs.declared.chains.Ends.{Ends}

-- the first of a list, or what comes after it
abbrev pub first_or : List ℕ → Option ℕ → Option ℕ
first_or [] after = after
first_or (i ∷ is) after = Some i

-- the last of a list, or what comes before it
abbrev pub last_or : Option ℕ → List ℕ → Option ℕ
last_or before [] = before
last_or before (i ∷ is) = last_or (Some i) is

-- the links lead through these slots, from what comes before them to what comes after
abbrev pub Leads : List Link → Option ℕ → List ℕ → Option ℕ → Type 0
Leads links before [] after = Unit {0}
Leads links before (i ∷ is) after = (slice_get links i ≡ Some (record { before = before; after = first_or is after })) × Leads links (Some i) is after

-- these slots, in this order, are the chain with these ends
pub record IsChain (links : List Link) (ends : Ends) (slots : List ℕ) : Type 0 where
  pub first : ends.first ≡ first_or slots None
  pub last : ends.last ≡ last_or None slots
  pub leads : Leads links None slots None

-- a slot is one of these
abbrev pub IsIn : ℕ → List ℕ → Type 0
IsIn i [] = ⊥
IsIn i (j ∷ js) = (i ≡ j) ⊎ IsIn i js

-- a slot is none of these
abbrev pub IsOut : ℕ → List ℕ → Type 0
IsOut i [] = Unit {0}
IsOut i (j ∷ js) = ¬ (i ≡ j) × IsOut i js

-- no slot stands twice
abbrev pub AreApart : List ℕ → Type 0
AreApart [] = Unit {0}
AreApart (i ∷ is) = IsOut i is × AreApart is

abbrev pub next_of : Option Link → Option ℕ
next_of None = None
next_of (Some l) = l.after

-- the slots that the links lead through from one on, at most so many
abbrev pub walk : List Link → ℕ → Option ℕ → List ℕ
walk links zero o = []
walk links (suc n) None = []
walk links (suc n) (Some i) = i ∷ walk links n (next_of (slice_get links i))

abbrev pub next_in : List Link → Option ℕ → Option ℕ
next_in links None = None
next_in links (Some i) = next_of (slice_get links i)

-- the slot that so many steps lead to
abbrev pub along : List Link → ℕ → Option ℕ → Option ℕ
along links zero o = o
along links (suc n) o = next_in links (along links n o)
