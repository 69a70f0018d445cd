-- The calls that looking formed first, as getting has them at hand.
use Rattle.std.specs.Prelude.{◌≡◌, ℕ, List, map}
use Rattle.dx_macros.specs.Site.{steps_text}
use Rattle.dx_graph.specs.Graph.{Node, node_at}
use Rattle.dx_tags.specs.declared.term.Term.{Term}
use Rattle.dx_tags.specs.Closed.{heads_of}
use Rattle.dx_getting.specs.declared.scene.Called.{Called}
use Rattle.dx_getting.specs.Stands.{FormedCalls, formed_calls}
use Rattle.dx_demand.specs.Forming.{Entries, formings}
use Rattle.dx_demand.specs.declared.seen.Memo.{Memo}
use Rattle.dx_performing.specs.Course as performing

-- the site and the attribute of the call that a node is
abbrev pub called_of : Node → Called
called_of n = record { site = steps_text n.place.site; attribute = n.place.cache }

-- by the tag of each call term the first node that formed it
abbrev pub formed_in : List Node → Entries → FormedCalls
formed_in nodes es = map (λ (e : ℕ × ℕ). (e.0, called_of (node_at nodes e.1))) es

-- they are the calls that stand so in the course of an execution
abbrev pub FormedSame : Type 0
FormedSame = (nodes : List Node) (terms : List Term) (m : Memo) →
    formed_calls (heads_of terms) (formed_in nodes m.formed.entries) ≡ performing.formed_calls (formings nodes terms m)
