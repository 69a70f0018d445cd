-- How the fields hold the sites.
use Rattle.std.specs.Prelude.{◌≡◌, ℕ, List, [], ◌∷◌, ◌++◌, length, Option, Some, None, slice_get, slice_set, bytes_eq, IsSome}
use Rattle.std.specs.List.{IsDistinct, swap_remove, position}
use Rattle.std.specs.Map.{keys_of, lookup}
use Rattle.dx_cache.specs.declared.chains.Ends.{Ends}
use Rattle.dx_cache.specs.declared.names.Name.{Name}
use Rattle.dx_cache.specs.declared.names.Name.TheVariants.{Own, Shared}
use Rattle.dx_cache.specs.declared.names.Group.{Group}

abbrev pub name_in : List (List ℕ) → Option Name → Option (List ℕ)
name_in keys None = None
name_in keys (Some (Own site)) = Some site
name_in keys (Some (Shared k)) = slice_get keys k

abbrev pub ends_in : List ℕ × Group → List ℕ × Ends
ends_in p = (p.0, p.1.ends)

-- where the table has the key of a name
abbrev pub name_place : List (List ℕ) → Name → Option ℕ
name_place keys (Own site) = position (bytes_eq site) keys
name_place keys (Shared k) = Some k

abbrev pub place_of : List (List ℕ) → Option (Option Name) → Option ℕ
place_of keys None = None
place_of keys (Some None) = None
place_of keys (Some (Some n)) = name_place keys n

-- each site's holder has its place, each place is that of its holder, and each own site is in the table
pub record IsHeld (held : List (Option Name)) (entries : List (List ℕ × Group)) : Type 0 where
  pub unique : IsDistinct bytes_eq (keys_of entries)
  pub holder : (k : ℕ) (p : List ℕ × Group) → slice_get entries k ≡ Some p → slice_get held p.1.holder ≡ Some (Some (Shared k))
  pub shared : (i k : ℕ) → slice_get held i ≡ Some (Some (Shared k)) → (p : List ℕ × Group) × (slice_get entries k ≡ Some p) × (p.1.holder ≡ i)
  pub own : (i : ℕ) (site : List ℕ) → slice_get held i ≡ Some (Some (Own site)) → IsSome (lookup (bytes_eq site) entries)

abbrev pub moved_to : List (Option Name) → ℕ → Option (List ℕ × Group) → List (Option Name)
moved_to held k None = held
moved_to held k (Some p) = slice_set held p.1.holder (Some (Shared k))

-- the entry at a place was taken out, the last stands there, and its holder knows it
abbrev pub Removed : List (List ℕ × Group) → List (Option Name) → ℕ → List ℕ → List (List ℕ × Group) → List (Option Name) → Type 0
Removed entries held k site new_entries new_held =
    (g : Group) × (slice_get entries k ≡ Some (site, g)) × (new_entries ≡ swap_remove entries k (site, g)) × (new_held ≡ moved_to held k (slice_get new_entries k))

-- a site came to slot i, where this was found for it: a new one becomes a key, and the bytes of one that is there stay at the slot
abbrev pub Holds : List (List ℕ × Group) → List (Option Name) → ℕ → List ℕ → Option Group → List (List ℕ × Group) → List (Option Name) → Type 0
Holds entries held i site (Some g) new_entries new_held =
    (new_entries ≡ entries) × (new_held ≡ slice_set held i (Some (Own site)))
Holds entries held i site None new_entries new_held =
    (new_entries ≡ entries ++ (site, record { holder = i; ends = record { first = None; last = None } }) ∷ []) × (new_held ≡ slice_set held i (Some (Shared (length entries))))
