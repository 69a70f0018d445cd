use Rattle.std.proofs.Common.{◌∙◌, ℕ, sym, ap, ap₂, List, Some, option_map, nat_eq}
use Rattle.dx_graph.specs.Graph.{node_at}
use Rattle.dx_graph.specs.GraphView.{graph_of}
use Rattle.dx_graph.specs.declared.node.Node.{Node}
use Rattle.dx_resuming.specs.Formed.{called_of}
use Rattle.dx_looking.proofs.FormedLaws.{formed_found}
use Rattle.dx_looking.proofs.calls.CallsSites.called.Goals as goal

pub returns-in-None : goal.returns-in-None
returns-in-None c =
    let nodes = (graph_of c.args.self.now.graph.now).nodes in
    ap (option_map (λ (n : ℕ). called_of (node_at nodes n))) (sym c.in-None.is ∙ c.node_of.ensures) ∙ sym (formed_found nodes (nat_eq c.args.tag) c.args.self.now.seen.now.memo.formed.entries)

pub returns-in_ok-site-in-Some : goal.returns-in_ok-site-in-Some
returns-in_ok-site-in-Some c =
    let nodes = (graph_of c.args.self.now.graph.now).nodes in
    ap₂ (λ (s : List ℕ) (a : ℕ). Some (record { site = s; attribute = a })) c.in_ok-site-in-Some.ensures.text (ap (λ (x : Node). x.cache) c.node.ensures)
    ∙ ap (option_map (λ (n : ℕ). called_of (node_at nodes n))) (sym c.in-Some.is ∙ c.node_of.ensures) ∙ sym (formed_found nodes (nat_eq c.args.tag) c.args.self.now.seen.now.memo.formed.entries)
