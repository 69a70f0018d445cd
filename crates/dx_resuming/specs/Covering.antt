-- Each call that getting a value can reach was formed, or is a link's.
use Rattle.std.specs.Prelude.{◌≡◌, ◌⊎◌, List, length, Some}
use Rattle.std.specs.Map.{lookup}
use Rattle.dx_base.specs.Object.{Tree as Object}
use Rattle.dx_graph.specs.Graph.{Node}
use Rattle.dx_tags.specs.declared.term.Term.{Term}
use Rattle.dx_tags.specs.declared.term.ValueTag.{ValueTag}
use Rattle.dx_tags.specs.contracts.term.ValueTagPartialEq.TheImpl as tags
use Rattle.dx_tags.specs.Closed.{Head, head_at, heads_of, value_term, value_terms, AreEarlier, Fits}
use Rattle.dx_links.specs.declared.key.Key.{Key}
use Rattle.dx_links.specs.Holding.{Holding}
use Rattle.dx_links.specs.LinkMap.{LinkMap, held_at}
use Rattle.dx_machine.specs.Covered.{IsCovered, AreCovered}
use Rattle.dx_getting.specs.Stands.{formed_calls, link_terms}
use Rattle.dx_getting.specs.Terms.{BoundValues}
use Rattle.dx_demand.specs.Memo.{formed_of}
use Rattle.dx_demand.specs.Terms.{AreExact}
use Rattle.dx_demand.specs.Found.{NeedsNoCall, IsFound, AllFound, IsClosed}
use Rattle.dx_demand.specs.declared.seen.Seen.{Seen}
use Rattle.dx_resuming.specs.Formed.{formed_in}

-- the term of each link that holds something needs no call, or has a value at hand
abbrev pub LinksBound : List Head → LinkMap → BoundValues → Type 0
LinksBound hs links bound = (key : Key) (h : Holding) → held_at key links ≡ Some h → NeedsNoCall (head_at hs h.tag.tag) ⊎ ((o : Object) × (lookup (tags.ghosts.eq h.tag) bound ≡ Some o))

-- a value that was found
abbrev pub ClosedCovers : Type 0
ClosedCovers = (links : LinkMap) (terms : List Term) (bound : BoundValues) (nodes : List Node) (seen : Seen) → AreExact terms → IsClosed links terms seen → LinksBound (heads_of terms) links bound →
    (t : ValueTag) → Fits terms t → IsFound links terms (formed_of seen.memo) t →
    IsCovered (formed_calls (heads_of terms) (formed_in nodes seen.memo.formed.entries)) (link_terms (heads_of terms) bound) (value_term (heads_of terms) t)

-- and values one behind the other
abbrev pub AllClosedCover : Type 0
AllClosedCover = (links : LinkMap) (terms : List Term) (bound : BoundValues) (nodes : List Node) (seen : Seen) → AreExact terms → IsClosed links terms seen → LinksBound (heads_of terms) links bound →
    (ts : List ValueTag) → AreEarlier (heads_of terms) (length terms) ts → AllFound links terms (formed_of seen.memo) ts →
    AreCovered (formed_calls (heads_of terms) (formed_in nodes seen.memo.formed.entries)) (link_terms (heads_of terms) bound) (value_terms (heads_of terms) ts)
