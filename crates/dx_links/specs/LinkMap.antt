-- Links as a finite map, in the order of the keys.
use Rattle.std.specs.Prelude.{◌≡◌, ℕ, zero, suc, List, [], ◌∷◌, Option, Some, None, refl}
use Rattle.std.specs.Coded.{Coded, code_by, coded×, coded_ℕ, coded_list, coded_option}
use Rattle.std.specs.Map.{lookup, remove_entry}
use Rattle.std.specs.BTreeMap.{insert_entry, is_at}
use Rattle.std.specs.Ordering.{nat_cmp}
use Rattle.std.specs.Cmp.Lexicographic.{slice_cmp}
use Rattle.std.specs.declared.cmp.Ordering.{Ordering}
use Rattle.dx_base.specs.ObjectCode.{coded_tree}
use Rattle.dx_objects.specs.Runs.{Values}
use Rattle.dx_tags.specs.declared.term.ValueTag.{ValueTag}
use Rattle.dx_links.specs.declared.key.Key.{Key}
use Rattle.dx_links.specs.declared.key.Key.TheVariants.{Global, Local}
use Rattle.dx_links.specs.declared.held.Change.{Change}
use Rattle.dx_links.specs.contracts.key.KeyOrd.TheImpl as keys
use Rattle.dx_links.specs.Holding.{Holding, coded_holding}

-- the keys with what they hold, in the order of the keys
abbrev pub LinkMap : Type 0
LinkMap = List (Key × Holding)

-- links, and the room for more keys
pub record Slotted : Type 0 where
  pub links : LinkMap
  pub room : ℕ

-- the links, the values that were held at the last emptying, by number, the room for more keys, and the room for more keys at an emptying
pub record Linked : Type 0 where
  pub links : LinkMap
  pub held : Values
  pub room : ℕ
  pub spare : ℕ

-- the first byte that differs decides; a text is before the longer ones that begin with it
abbrev pub by_bytes : List ℕ → List ℕ → Ordering
by_bytes = slice_cmp nat_cmp

-- global keys before local ones; those by name, these by path and then by name
abbrev pub key_cmp : Key → Key → Ordering
key_cmp = keys.ghosts.cmp

-- ---- a key in code

abbrev pub key_of_parts : Option (List ℕ) × List ℕ → Key
key_of_parts (None, n) = Global n
key_of_parts (Some p, n) = Local p n

abbrev pub parts_of_key : Key → Option (List ℕ) × List ℕ
parts_of_key (Global n) = (None, n)
parts_of_key (Local p n) = (Some p, n)

pub key_back : (k : Key) → key_of_parts (parts_of_key k) ≡ k
key_back (Global n) = refl
key_back (Local p n) = refl

abbrev pub coded_key : Coded Key
coded_key = code_by (Option (List ℕ) × List ℕ) (coded× (coded_option (coded_list coded_ℕ)) (coded_list coded_ℕ)) parts_of_key key_of_parts key_back

abbrev coded_links : Coded LinkMap
coded_links = coded_list (coded× coded_key coded_holding)

abbrev pub coded_slotted : Coded Slotted
coded_slotted =
    code_by (LinkMap × ℕ) (coded× coded_links coded_ℕ)
    (λ l. (l.links, l.room))
    (λ p. record { links = p.0; room = p.1 })
    (λ _. refl)

abbrev pub coded_linked : Coded Linked
coded_linked =
    code_by (LinkMap × (Values × (ℕ × ℕ))) (coded× coded_links (coded× (coded_list (coded_option coded_tree)) (coded× coded_ℕ coded_ℕ)))
    (λ l. (l.links, (l.held, (l.room, l.spare))))
    (λ p. record { links = p.0; held = p.1.0; room = p.1.1.0; spare = p.1.1.1 })
    (λ _. refl)

abbrev pub coded_change : Coded Change
coded_change =
    code_by (Key × Option Holding) (coded× coded_key (coded_option coded_holding))
    (λ c. (c.key, c.held))
    (λ p. record { key = p.0; held = p.1 })
    (λ _. refl)

-- ---- what is read and changed

-- what a key holds
abbrev pub held_at : Key → LinkMap → Option Holding
held_at k links = lookup (is_at (key_cmp k)) links

-- a key holds this from now on, or nothing any more
abbrev pub put_at : LinkMap → Key → Option Holding → LinkMap
put_at links k (Some h) = insert_entry key_cmp links k h
put_at links k None = remove_entry (is_at (key_cmp k)) links

-- the links after changes, the first of which comes first
abbrev pub after : LinkMap → List Change → LinkMap
after links [] = links
after links (c ∷ cs) = after (put_at links c.key c.held) cs

-- another tag for what stands at a place
abbrev pub tag_at : LinkMap → ℕ → ValueTag → LinkMap
tag_at [] i t = []
tag_at (l ∷ ls) zero t = (l.0, record { value = l.1.value; tag = t }) ∷ ls
tag_at (l ∷ ls) (suc i) t = l ∷ tag_at ls i t
