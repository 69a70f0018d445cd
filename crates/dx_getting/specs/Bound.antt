-- When the values of links by their terms are those of the links.
use Rattle.std.specs.Prelude.{◌≡◌, ◌==◌, ◌+◌, ◌<◌, ◌≤◌, ℕ, List, [], ◌∷◌, Some, slice_get, is_some, not, if◌then◌else◌}
use Rattle.std.specs.List.{IsDistinct}
use Rattle.std.specs.Map.{keys_of, lookup}
use Rattle.dx_base.specs.Object.{Tree as Object}
use Rattle.dx_tags.specs.declared.term.Term.{Term}
use Rattle.dx_tags.specs.declared.term.Term.TheVariants.{Held as HeldBy}
use Rattle.dx_tags.specs.declared.term.ValueTag.{ValueTag}
use Rattle.dx_tags.specs.contracts.term.ValueTagPartialEq.TheImpl as tags
use Rattle.dx_links.specs.declared.key.Key.{Key}
use Rattle.dx_links.specs.Holding.{Holding}
use Rattle.dx_links.specs.LinkMap.{LinkMap}
use Rattle.dx_getting.specs.Terms.{BoundValues, Table, count_in}

-- how many links have this tag
abbrev pub links_with : ValueTag → LinkMap → ℕ
links_with t [] = 0
links_with t (l ∷ ls) = (if tags.ghosts.eq t l.1.tag then 1 else 0) + links_with t ls

-- the tags of links are counted from one tag on, and a value is found by each that is counted and by no other
pub record IsBound (links : LinkMap) (bound : Table) : Type 0 where
  pub once : IsDistinct tags.ghosts.eq (keys_of bound.pairs)
  pub below : (t : ValueTag) → t.tag < bound.from → count_in t bound.counts ≡ 0
  pub counted : (t : ValueTag) → bound.from ≤ t.tag → count_in t bound.counts ≡ links_with t links
  pub found : (t : ValueTag) → is_some (lookup (tags.ghosts.eq t) bound.pairs) ≡ not (count_in t bound.counts == 0)

-- so many terms in front are those of held values
abbrev pub BeginHeld : ℕ → List Term → Type 0
BeginHeld n terms = (k : ℕ) → k < n → slice_get terms k ≡ Some (HeldBy k)

-- the value of a link, by its tag
pub record IsLink (links : LinkMap) (x : ValueTag × Object) : Type 0 where
  pub place : ℕ
  pub link : Key × Holding
  pub at : slice_get links place ≡ Some link
  pub tag : link.1.tag ≡ x.0
  pub object : link.1.value ≡ x.1

-- what is found by a tag is what a link with this tag holds
abbrev pub AreLinks : LinkMap → BoundValues → Type 0
AreLinks links bound = (t : ValueTag) (o : Object) → lookup (tags.ghosts.eq t) bound ≡ Some o → IsLink links (t, o)
