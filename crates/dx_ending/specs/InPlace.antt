-- Links and the values by their terms, where both are changed in place.
use Rattle.std.specs.Prelude.{◌≡◌, ◌==◌, ◌+◌, ◌<◌, ◌≤◌, ◌⊎◌, ℕ, List, [], ◌∷◌, length, map, not, is_some, Option, Some, None, if◌then◌else◌}
use Rattle.std.specs.List.{IsDistinct}
use Rattle.std.specs.List.Sorted.{IsStrictlySortedBy}
use Rattle.std.specs.Map.{keys_of, lookup}
use Rattle.std.specs.declared.rc.Rc.{Rc}
use Rattle.std.specs.declared.alloc.Global.{Global}
use Rattle.dx_base.specs.Object.{Tree as Object}
use Rattle.dx_tags.specs.declared.term.ValueTag.{ValueTag}
use Rattle.dx_tags.specs.contracts.term.ValueTagPartialEq.TheImpl as tags
use Rattle.dx_links.specs.declared.held.Change.{Change}
use Rattle.dx_links.specs.Holding.{Holding}
use Rattle.dx_links.specs.LinkMap.{LinkMap, Linked, key_cmp}
use Rattle.dx_getting.specs.Terms.{BoundValues, Table, count_in}
use Rattle.dx_getting.specs.Bound.{links_with}
use Rattle.dx_ending.specs.declared.in_place.Ready.{Ready}

-- the value that is set, once more
abbrev pub IsShared : Option Holding → Option (Rc Object Global) → Type 0
IsShared None None = Unit {0}
IsShared None (Some o) = ⊥
IsShared (Some h) None = ⊥
IsShared (Some h) (Some o) = o.value ≡ h.value

abbrev pub AreShared : List Ready → Type 0
AreShared [] = Unit {0}
AreShared (r ∷ rs) = IsShared r.change.held r.value × AreShared rs

abbrev pub changes_in : List Ready → List Change
changes_in rs = map (λ (r : Ready). r.change) rs

-- ordered links with room for so many changes, which can be counted
pub record HasRoom (links : Linked) (bound : Table) (changes : ℕ) : Type 0 where
  pub room : changes ≤ links.room
  pub values_room : changes ≤ bound.room
  pub few : length links.links + changes < 18446744073709551616
  pub sorted : IsStrictlySortedBy key_cmp (keys_of links.links)

-- there is room for these changes
pub record IsReady (links : Linked) (bound : Table) (rs : List Ready) : Type 0 where
  pub has : HasRoom links bound (length rs)
  pub shared : AreShared rs

-- ---- what a key holds, and is to hold

-- how many links have this tag, of one that holds this or of none
abbrev pub held_with : ValueTag → Option Holding → ℕ
held_with t None = 0
held_with t (Some h) = if tags.ghosts.eq t h.tag then 1 else 0

-- what is found by this tag where one link more holds this, or none
abbrev pub found_with : ValueTag → Option Holding → Option Object → Option Object
found_with t None was = was
found_with t (Some h) was = if tags.ghosts.eq h.tag t then Some h.value else was

-- the links but that of one key, which holds this or isn't there, are counted from one tag on, and a value is found by each tag
-- that is counted and by no other
pub record IsReleased (links : LinkMap) (held : Option Holding) (bound : Table) : Type 0 where
  pub once : IsDistinct tags.ghosts.eq (keys_of bound.pairs)
  pub below : (t : ValueTag) → t.tag < bound.from → count_in t bound.counts ≡ 0
  pub counted : (t : ValueTag) → bound.from ≤ t.tag → count_in t bound.counts + held_with t held ≡ links_with t links
  pub found : (t : ValueTag) → is_some (lookup (tags.ghosts.eq t) bound.pairs) ≡ not (count_in t bound.counts == 0)

-- ---- where values come from

-- one of the changes sets this value under this tag
abbrev pub IsSet : List Change → ValueTag → Object → Type 0
IsSet [] t o = ⊥
IsSet (c ∷ cs) t o = (c.held ≡ Some (record { value = o; tag = t })) ⊎ IsSet cs t o

-- each value was there, or a change set it
abbrev pub ComeFrom : List Change → BoundValues → BoundValues → Type 0
ComeFrom changes old new = (t : ValueTag) (o : Object) → lookup (tags.ghosts.eq t) new ≡ Some o → (lookup (tags.ghosts.eq t) old ≡ Some o) ⊎ IsSet changes t o
