-- The calls that looking formed first are those that stand so in the course of an execution.
use Rattle.std.proofs.Common.{◌≡◌, List, [], ◌∷◌, refl}
use Rattle.std.specs.Prelude.{map}
use Rattle.dx_macros.specs.Site.{steps_text}
use Rattle.dx_graph.specs.Graph.{Node, node_at}
use Rattle.dx_tags.specs.Closed.{Head, ConstantHead, HeldHead, CallHead, FileHead, head_at, heads_of}
use Rattle.dx_getting.specs.Stands.{call_of_head, formed_calls}
use Rattle.dx_demand.specs.Forming.{Entries, call_in, called_at}
use Rattle.dx_performing.specs.Course.{formed_call}
use Rattle.dx_resuming.specs.Formed.{formed_in, FormedSame}

one_call : (h : Head) → call_of_head h ≡ call_in h
one_call (ConstantHead c) = refl
one_call (HeldHead n) = refl
one_call (CallHead c) = refl
one_call (FileHead b) = refl

each_same : (nodes : List Node) (hs : List Head) (es : Entries) → formed_calls hs (formed_in nodes es) ≡ map formed_call (map (called_at nodes hs) es)
each_same nodes hs [] = refl
each_same nodes hs (e ∷ es) = λ i.
    record { call = one_call (head_at hs e.0) i; site = steps_text (node_at nodes e.1).place.site; attribute = (node_at nodes e.1).place.cache } ∷ each_same nodes hs es i

pub formed_same : FormedSame
formed_same nodes terms m = each_same nodes (heads_of terms) m.formed.entries
