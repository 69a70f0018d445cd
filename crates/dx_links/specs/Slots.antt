-- Links in slots, in the order in which they came, and the numbers of the slots in the order of the keys.
use Rattle.std.specs.Prelude.{◌≡◌, ℕ, ◌<◌, List, [], length, map, slice_index_or, Option, Some, None}
use Rattle.std.specs.List.{All, Contains}
use Rattle.std.specs.List.Sorted.{IsStrictlySortedBy}
use Rattle.std.specs.Map.{keys_of}
use Rattle.std.specs.declared.cmp.Ordering.{Ordering}
use Rattle.std.specs.declared.cmp.Ordering.TheVariants.{Less, Equal}
use Rattle.dx_base.specs.Object.{text, no_parts}
use Rattle.dx_links.specs.declared.key.Key.{Key}
use Rattle.dx_links.specs.declared.key.Key.TheVariants.{Global}
use Rattle.dx_links.specs.Holding.{Holding}
use Rattle.dx_links.specs.LinkMap.{LinkMap, key_cmp}

-- what is read past the last slot, where no number of an order leads
abbrev pub no_link : Key × Holding
no_link = (Global [], record { value = text [] no_parts; tag = record { tag = 0; result = 0 } })

-- the slots, read in an order
abbrev pub links_of : LinkMap → List ℕ → LinkMap
links_of slots order = map (λ n. slice_index_or slots n no_link) order

-- how the key of a slot compares with a key, and below it past the last slot
abbrev pub slot_cmp : Option (Key × Holding) → Key → Ordering
slot_cmp None k = Less
slot_cmp (Some link) k = key_cmp link.0 k

-- the order has the number of each slot and no other, and the keys so read ascend
pub record AreOrdered (slots : LinkMap) (order : List ℕ) : Type 0 where
  pub below : All (λ n. n < length slots) order
  pub each : (n : ℕ) → n < length slots → Contains order n
  pub sorted : IsStrictlySortedBy key_cmp (keys_of (links_of slots order))

-- the link of a key stands at a place
pub record StandsAt (k : Key) (links : LinkMap) (i : ℕ) : Type 0 where
  pub within : i < length links
  pub key : key_cmp (slice_index_or links i no_link).0 k ≡ Equal
