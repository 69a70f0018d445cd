-- What is set, with the terms of the objects.
use Rattle.std.specs.Prelude.{◌≡◌, List, map, option_map}
use Rattle.dx_tags.specs.Closed.{Head, value_term}
use Rattle.dx_links.specs.Holding.{Holding}
use Rattle.dx_links.specs.LinkMap.{LinkMap, after}
use Rattle.dx_links.specs.declared.held.Change.{Change}
use Rattle.dx_performing.specs.Kept.{Link, SetTerm, after_set_terms}
use Rattle.dx_looking.specs.Setting.{links_of}

abbrev pub link_of : List Head → Holding → Link
link_of hs h = record { object = h.value; term = value_term hs h.tag }

-- changes as Sets, with the terms that tags name
abbrev pub set_terms_of : List Head → List Change → List SetTerm
set_terms_of hs changes = map (λ (c : Change). record { key = c.key; link = option_map (link_of hs) c.held }) changes

-- links with their terms after changes are those links after the Sets
abbrev pub SetsAlike : Type 0
SetsAlike = (hs : List Head) (links : LinkMap) (changes : List Change) → links_of hs (after links changes) ≡ after_set_terms (links_of hs links) (set_terms_of hs changes)
