-- What an emptying leaves, as the machine's.
use Rattle.std.specs.Prelude.{◌≡◌, List, [], length}
use Rattle.dx_tags.specs.Closed.{Head, heads_of}
use Rattle.dx_links.specs.LinkMap.{LinkMap}
use Rattle.dx_tags.specs.HeldTerms.{held_terms}
use Rattle.dx_links.specs.Emptied.{values_held, all_held}
use Rattle.dx_demand.specs.Forming.{named_terms}
use Rattle.dx_performing.specs.Kept.{Kept, emptied}
use Rattle.dx_looking.specs.Setting.{links_of}

-- what is kept where each of these links has the term of its place
abbrev pub kept_empty : Kept → LinkMap → Kept
kept_empty k links = record {
  entries = [];
  terms = named_terms (held_terms (length links));
  links = links_of (heads_of (held_terms (length links))) (all_held links);
  held = values_held links;
  written = k.written;
}

abbrev pub EmptiesAlike : Type 0
EmptiesAlike = (hs : List Head) (links : LinkMap) (k : Kept) → k.links ≡ links_of hs links → emptied k ≡ kept_empty k links
