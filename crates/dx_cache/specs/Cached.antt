-- The entries of a cache, and how one is found, moved, dropped and kept.
use Rattle.std.specs.Prelude.{◌≡◌, ℕ, suc, ◌&&◌, slice_get, ◌+◌, ◌≤◌, List, [], ◌∷◌, ◌++◌, filter, Bool, not, ◌==◌, nat_le, if◌then◌else◌, bytes_eq, Option, Some, None}
use Rattle.std.specs.List.{remove}
use Rattle.dx_cache.specs.declared.entry.Entry.{Entry}

-- a budget, the entries from the oldest, and the room for more
pub record Cached : Type 0 where
  pub budget : ℕ
  pub entries : List Entry
  pub room : ℕ

-- the sum of the stated sizes
abbrev pub total : List Entry → ℕ
total [] = 0
total (e ∷ es) = e.size + total es

abbrev pub has_tag : ℕ → Entry → Bool
has_tag t e = e.tag == t

abbrev pub of_site : List ℕ → Entry → Bool
of_site site e = bytes_eq site e.site

-- the first entry with a tag
abbrev pub find : ℕ → List Entry → Option Entry
find t [] = None
find t (e ∷ es) = if e.tag == t then Some e else find t es

-- the entries with the one of this tag at the end
abbrev pub moved : ℕ → List Entry → List Entry
moved t es = filter (λ e. not (has_tag t e)) es ++ filter (has_tag t) es

-- what is left when the oldest entries are dropped until one of this size fits
abbrev pub fitting : ℕ → ℕ → List Entry → List Entry
fitting budget size [] = []
fitting budget size (e ∷ es) = if nat_le (total (e ∷ es) + size) budget then e ∷ es else fitting budget size es

-- the oldest entry of a site
abbrev pub first_of : List ℕ → List Entry → Option Entry
first_of site [] = None
first_of site (e ∷ es) = if of_site site e then Some e else first_of site es

-- the entries without the oldest of a site
abbrev pub without_first : List ℕ → List Entry → List Entry
without_first site [] = []
without_first site (e ∷ es) = if of_site site e then es else e ∷ without_first site es

-- The next entry that is dropped before one of this site, attribute and size is kept.

-- the place of the first entry that passes, where the first of the list has number n
abbrev pub place_from : ℕ → (Entry → Bool) → List Entry → Option ℕ
place_from n p [] = None
place_from n p (e ∷ es) = if p e then Some n else place_from (suc n) p es

abbrev pub place : (Entry → Bool) → List Entry → Option ℕ
place p es = place_from 0 p es

-- the front, where the size is within the budget and its sum with the others is not
abbrev pub front_place : ℕ → ℕ → List Entry → Option ℕ
front_place size budget es = if nat_le size budget && not (nat_le (total es + size) budget) then Some 0 else None

abbrev pub or_place : Option ℕ → Option ℕ → Option ℕ
or_place (Some i) o = Some i
or_place None o = o

-- under attribute 0 none, under 2 the oldest of the site first, and else the front
abbrev pub next_place : List ℕ → ℕ → ℕ → ℕ → List Entry → Option ℕ
next_place site attribute size budget es =
    if attribute == 0 then None
    else if attribute == 2 then or_place (place (of_site site) es) (front_place size budget es)
    else front_place size budget es

-- the entry at this place was taken out
abbrev pub Drops : Option ℕ → Cached → Option Entry → Cached → Type 0
Drops None old result new = (result ≡ None) × (new ≡ old)
Drops (Some i) old result new =
    (result ≡ slice_get old.entries i) × (new.entries ≡ remove old.entries i) × (new.budget ≡ old.budget) × (old.room ≤ new.room)

-- All that is dropped, and what is left, before an entry of this site, attribute and size is kept.

-- the entries that the oldest are dropped to reach `fitting`
abbrev pub passed : ℕ → ℕ → List Entry → List Entry
passed budget size [] = []
passed budget size (e ∷ es) = if nat_le (total (e ∷ es) + size) budget then [] else e ∷ passed budget size es

abbrev pub others : ℕ → List ℕ → List Entry → List Entry
others attribute site es = if attribute == 2 then filter (λ e. not (of_site site e)) es else es

abbrev pub own_site : ℕ → List ℕ → List Entry → List Entry
own_site attribute site es = if attribute == 2 then filter (of_site site) es else []

abbrev pub left_for : List ℕ → ℕ → ℕ → ℕ → List Entry → List Entry
left_for site attribute size budget es =
    if attribute == 0 then es
    else if nat_le size budget then fitting budget size (others attribute site es)
    else others attribute site es

abbrev pub dropped_for : List ℕ → ℕ → ℕ → ℕ → List Entry → List Entry
dropped_for site attribute size budget es =
    if attribute == 0 then []
    else if nat_le size budget then own_site attribute site es ++ passed budget size (others attribute site es)
    else own_site attribute site es

-- whether such an entry is kept
abbrev pub stays : ℕ → ℕ → ℕ → Bool
stays attribute size budget = not (attribute == 0) && nat_le size budget

-- some of a list, in order
pub data IsPartOf {A : Type 0} : List A → List A → Type 0 where
  part_none : IsPartOf [] []
  part_keep : {x : A} {xs ys : List A} → IsPartOf xs ys → IsPartOf (x ∷ xs) (x ∷ ys)
  part_skip : {y : A} {xs ys : List A} → IsPartOf xs ys → IsPartOf xs (y ∷ ys)

-- this is the tag of the entry at a place, if there is a place
abbrev pub IsTagAt : Option ℕ → List Entry → Option ℕ → Type 0
IsTagAt o es None = o ≡ None
IsTagAt o es (Some tag) = (i : ℕ) × (o ≡ Some i) × (place (has_tag tag) es ≡ Some i)
