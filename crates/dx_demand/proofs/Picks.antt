-- What the code picks is what is picked.
use Rattle.std.proofs.Common.{◌≡◌, List, sym, ap, ◌∙◌}
use Rattle.dx_graph.specs.Graph.{Node, node_at}
use Rattle.dx_tags.specs.declared.term.Term.{Term}
use Rattle.dx_tags.specs.Closed.{ValueTerm, heads_of, value_term}
use Rattle.dx_meaning.specs.Outcome.{Value}
use Rattle.dx_meaning.specs.Picking.{Shelf, pick}
use Rattle.dx_links.specs.LinkMap.{LinkMap}
use Rattle.dx_demand.specs.Picked.{shelf_with, shown_pick, text_term}
use Rattle.dx_meaning.specs.Scan.{Sight, null_term, picked_scanned, terms_in}
use Rattle.dx_meaning.specs.More.{More}
use Rattle.dx_demand.specs.Memo.{node_scans, port_scan}
use Rattle.dx_demand.specs.Steps.{Holds}
use Rattle.dx_demand.specs.declared.pick.Pick.{Pick}
use Rattle.dx_demand.specs.declared.settled.Port.{Port}
use Rattle.dx_meaning.proofs.Keeping.{same_terms}

pub shelf_same : (links : LinkMap) (terms : List Term) (s : Sight) → Holds links terms s → terms_in s ≡ shelf_with (value_term (heads_of terms)) links
shelf_same links terms s h = λ i. record { null = null_term; text = text_term; held = λ k. h k i }

pub code_pick : (nodes : List Node) (links : LinkMap) (terms : List Term) (s : Sight) → Holds links terms s → (p : Port) (v : Value) (c : Pick) →
    shown_pick (value_term (heads_of terms)) c ≡ pick (shelf_with (value_term (heads_of terms)) links) (node_at nodes p.node).what (node_at nodes p.node).place p.result v →
    ((s' : Sight) → More s s' → port_scan s' nodes p ≡ picked_scanned (node_at nodes p.node).place (node_scans s' nodes p.node) (pick (terms_in s') (node_at nodes p.node).what (node_at nodes p.node).place p.result v)) →
    (s' : Sight) → More s s' → port_scan s' nodes p ≡ picked_scanned (node_at nodes p.node).place (node_scans s' nodes p.node) (shown_pick (value_term (heads_of terms)) c)
code_pick nodes links terms s holds p v c e h s' more =
    let node = node_at nodes p.node in
    h s' more
    ∙ ap (λ (shelf : Shelf ValueTerm). picked_scanned node.place (node_scans s' nodes p.node) (pick shelf node.what node.place p.result v)) (same_terms s s' more ∙ shelf_same links terms s holds)
    ∙ ap (picked_scanned node.place (node_scans s' nodes p.node)) (sym e)
