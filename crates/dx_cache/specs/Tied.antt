-- How slots, chains and tables hold the list of entries.
use Rattle.std.specs.Prelude.{◌≡◌, ℕ, ◌+◌, ◌≤◌, List, [], length, map, filter, Bool, false, ◌&&◌, not, ◌==◌, nat_eq, nat_le, if◌then◌else◌, bytes_eq, Option, Some, None, slice_get}
use Rattle.std.specs.Map.{lookup}
use Rattle.dx_cache.specs.declared.chains.Link.{Link}
use Rattle.dx_cache.specs.declared.chains.Ends.{Ends}
use Rattle.dx_cache.specs.Chain.{IsChain, IsIn, AreApart, walk}
use Rattle.dx_cache.specs.declared.entry.Entry.{Entry}
use Rattle.dx_cache.specs.declared.slots.Body.{Body}
use Rattle.dx_cache.specs.Cached.{total, or_place}
use Rattle.dx_cache.specs.Sound.{AreKept}

-- an entry of no slot
abbrev pub blank : Body
blank = record { tag = 0; attribute = 0; size = 0; outs = [] }

abbrev pub body_in : Option (Option Body) → Body
body_in None = blank
body_in (Some None) = blank
body_in (Some (Some b)) = b

abbrev pub site_in : Option (Option (List ℕ)) → List ℕ
site_in None = []
site_in (Some None) = []
site_in (Some (Some s)) = s

abbrev pub entry_of : Body → List ℕ → Entry
entry_of b s = record { tag = b.tag; site = s; attribute = b.attribute; size = b.size; outs = b.outs }

-- the entry of a slot
abbrev pub entry_at : List (Option Body) → List (Option (List ℕ)) → ℕ → Entry
entry_at slots names i = entry_of (body_in (slice_get slots i)) (site_in (slice_get names i))

abbrev pub entries_at : List (Option Body) → List (Option (List ℕ)) → List ℕ → List Entry
entries_at slots names order = map (entry_at slots names) order

-- whether a slot is one of a site
abbrev pub is_at : List ℕ → Option (Option (List ℕ)) → Bool
is_at site None = false
is_at site (Some None) = false
is_at site (Some (Some s)) = bytes_eq site s

abbrev pub slots_of : List ℕ → List (Option (List ℕ)) → List ℕ → List ℕ
slots_of site names order = filter (λ i. is_at site (slice_get names i)) order

-- the slots of a site are the chain with these ends, and there are none where there are no ends
abbrev pub IsSiteChain : List Link → Option Ends → List ℕ → Type 0
IsSiteChain own None xs = xs ≡ []
IsSiteChain own (Some e) xs = IsChain own e xs

-- a slot that has an entry: its body, its site, and its place in the table of tags
pub record IsFull (slots : List (Option Body)) (names : List (Option (List ℕ))) (tags : List (ℕ × ℕ)) (i : ℕ) : Type 0 where
  pub body : Body
  pub site : List ℕ
  pub at : slice_get slots i ≡ Some (Some body)
  pub name : slice_get names i ≡ Some (Some site)
  pub found : lookup (nat_eq body.tag) tags ≡ Some i

pub record IsFree (slots : List (Option Body)) (names : List (Option (List ℕ))) (i : ℕ) : Type 0 where
  pub at : slice_get slots i ≡ Some None
  pub name : slice_get names i ≡ Some None

-- the tag's entry is in this slot
pub record HasTag (slots : List (Option Body)) (order : List ℕ) (t i : ℕ) : Type 0 where
  pub body : Body
  pub at : slice_get slots i ≡ Some (Some body)
  pub tag : body.tag ≡ t
  pub is_in : IsIn i order

-- the slots in the list's order, and those that are free, against chains and tables
pub record IsTied (slots : List (Option Body)) (names : List (Option (List ℕ))) (ends : List (List ℕ × Ends)) (links own : List Link) (all free : Ends) (tags : List (ℕ × ℕ)) (order vacant : List ℕ) : Type 0 where
  pub chain : IsChain links all order
  pub free_chain : IsChain links free vacant
  pub apart : AreApart order
  pub free_apart : AreApart vacant
  pub count : length order + length vacant ≡ length slots
  pub links_long : length links ≡ length slots
  pub own_long : length own ≡ length slots
  pub names_long : length names ≡ length slots
  pub full : (i : ℕ) → IsIn i order → IsFull slots names tags i
  pub empty : (i : ℕ) → IsIn i vacant → IsFree slots names i
  pub named : (i : ℕ) (site : List ℕ) → slice_get names i ≡ Some (Some site) → IsIn i order
  pub tagged : (t i : ℕ) → lookup (nat_eq t) tags ≡ Some i → HasTag slots order t i
  pub sites : (site : List ℕ) → IsSiteChain own (lookup (bytes_eq site) ends) (slots_of site names order)

-- The fields.

abbrev pub order_in : List Link → List (Option Body) → Ends → List ℕ
order_in links slots ends = walk links (length slots) ends.first

-- what is true of the fields
pub record IsSound (budget used : ℕ) (slots : List (Option Body)) (names : List (Option (List ℕ))) (ends : List (List ℕ × Ends)) (links own : List Link) (all free : Ends) (tags : List (ℕ × ℕ)) : Type 0 where
  pub tied : IsTied slots names ends links own all free tags (order_in links slots all) (order_in links slots free)
  pub used_is : used ≡ total (entries_at slots names (order_in links slots all))
  pub bounded : used ≤ budget
  pub kept : AreKept (entries_at slots names (order_in links slots all))
  pub counted : length tags ≡ length (order_in links slots all)

-- the next slot that is taken out before an entry of this attribute and size is stored, by the ends of its site's chain
abbrev pub first_in : Option Ends → Option ℕ
first_in None = None
first_in (Some e) = e.first

abbrev pub front_slot : ℕ → ℕ → ℕ → Option ℕ → Option ℕ
front_slot size budget used first = if nat_le size budget && not (nat_le (used + size) budget) then first else None

abbrev pub next_slot : Option Ends → ℕ → ℕ → ℕ → ℕ → Option ℕ → Option ℕ
next_slot found attribute size budget used first =
    if attribute == 0 then None
    else if attribute == 2 then or_place (first_in found) (front_slot size budget used first)
    else front_slot size budget used first

-- the tag of what a slot has
abbrev pub tag_in : Option (Option Body) → Option ℕ
tag_in None = None
tag_in (Some None) = None
tag_in (Some (Some b)) = Some b.tag
