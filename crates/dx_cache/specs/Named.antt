-- The sites of slots, and the ends of their chains.
use Rattle.std.specs.Prelude.{◌≡◌, ℕ, List, Option, Some, None, slice_get, bytes_eq, if◌then◌else◌}
use Rattle.dx_cache.specs.declared.chains.Ends.{Ends}

-- the site of each slot that has one, the ends of each site's chain, and the room for more sites
pub record Named : Type 0 where
  pub names : List (Option (List ℕ))
  pub ends : List (List ℕ × Ends)
  pub room : ℕ

abbrev pub HasName : List (Option (List ℕ)) → ℕ → List ℕ → Type 0
HasName names i site = slice_get names i ≡ Some (Some site)

abbrev pub IsNamed : List (Option (List ℕ)) → ℕ → Type 0
IsNamed names i = (site : List ℕ) × HasName names i site

-- another slot of the same site, or none where there is none
abbrev pub IsHeir : List (Option (List ℕ)) → ℕ → List ℕ → Option ℕ → Type 0
IsHeir names i site None = (j : ℕ) → HasName names j site → j ≡ i
IsHeir names i site (Some j) = ¬ (j ≡ i) × HasName names j site

abbrev pub HasHeir : List (Option (List ℕ)) → ℕ → Option ℕ → Type 0
HasHeir names i heir = (site : List ℕ) → HasName names i site → IsHeir names i site heir

abbrev pub or_no_ends : Option Ends → Ends
or_no_ends None = record { first = None; last = None }
or_no_ends (Some e) = e

-- what is found for a site after another got one slot more
abbrev pub added_ends : List ℕ → List ℕ → Option Ends → Option Ends
added_ends site other found = if bytes_eq site other then Some (or_no_ends found) else found

-- what is found for a site after another got these ends
abbrev pub given_ends : List ℕ → Ends → List ℕ → Option Ends → Option Ends
given_ends site ends other found = if bytes_eq site other then Some ends else found

-- what is found for a site after another lost a slot
abbrev pub taken_ends : Option ℕ → List ℕ → List ℕ → Option Ends → Option Ends
taken_ends None site other found = if bytes_eq site other then None else found
taken_ends (Some j) site other found = found
