use Rattle.std.proofs.Common.{length, All, sym, ap, ◌∙◌, subst}
use Rattle.dx_graph.specs.Graph.{MayTake}
use Rattle.dx_graph.specs.GraphView.{graph_of}
use Rattle.dx_graph.specs.declared.node.Node.{Node}
use Rattle.dx_demand_tests.proofs.Taking.{inputs_taken}
use Rattle.dx_demand_tests.proofs.looking.inputs_at.Goals as goal

pub returns : goal.returns
returns c =
    let g = graph_of c.args.g.now in
    subst (All (MayTake g.nodes (length g.nodes))) (sym (c.as_slice.ensures ∙ ap (λ (y : Node). y.inputs) c.node-node.ensures)) (inputs_taken g c.args.g.now.lawful c.args.n c.requires)
