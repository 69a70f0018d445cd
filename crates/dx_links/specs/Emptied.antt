-- What an emptying leaves of links: each has the term of its place, and the values that are held are theirs.
use Rattle.std.specs.Prelude.{ℕ, zero, suc, [], ◌∷◌, map, length, Some}
use Rattle.dx_objects.specs.Runs.{Values}
use Rattle.dx_tags.specs.declared.term.ValueTag.{ValueTag}
use Rattle.dx_links.specs.declared.key.Key.{Key}
use Rattle.dx_links.specs.Holding.{Holding}
use Rattle.dx_links.specs.LinkMap.{LinkMap}

-- what links hold, in the order of the keys
abbrev pub values_held : LinkMap → Values
values_held links = map (λ (l : Key × Holding). Some l.1.value) links

abbrev pub held_tag : ℕ → ValueTag
held_tag n = record { tag = n; result = 0 }

-- the first so many links have the terms of held values, the first of the list that of number n
abbrev pub front_held : (count n : ℕ) → LinkMap → LinkMap
front_held zero n links = links
front_held (suc count) n [] = []
front_held (suc count) n (l ∷ ls) = (l.0, record { value = l.1.value; tag = held_tag n }) ∷ front_held count (suc n) ls

-- each link k has the term of held value k
abbrev pub all_held : LinkMap → LinkMap
all_held links = front_held (length links) 0 links
