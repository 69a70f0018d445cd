use Rattle.std.proofs.Common.{ap, arith}
use Rattle.dx_macros.specs.Tree.{TreeCall}
use Rattle.dx_graph.specs.Graph.{node_of}
use Rattle.dx_graph.specs.GraphView.{graph_of, spots_in}
use Rattle.std.proofs.Math.Logic.{∥∥₁_map}
use Rattle.dx_graph.specs.Trails.{spot_under}
use Rattle.dx_graph.proofs.Sites.{site_lawful}
use Rattle.dx_texts.proofs.Adding.{node_unfolds, effects_below, unfolds_same}
use Rattle.dx_texts.proofs.expansion.add_node.Goals as goal

pub call-requires-clause-node : goal.call-requires-clause-node
call-requires-clause-node c = record {
  inputs = c.in_ok-inputs.ensures.fits (graph_of c.args.graph.now).nodes c.requires.given;
  enough = c.in_ok-inputs.ensures.enough;
  few = c.in_ok-inputs.ensures.few;
  cache = c.requires.cache;
  site = ∥∥₁_map c.requires.spot (λ spot. site_lawful (spot_under (spots_in c.args.graph.now) c.args.trail) 0 c.args.f c.args.k spot (omega (arith, c.ranges.k)));
}

pub returns-clause-unfolds : goal.returns-clause-unfolds
returns-clause-unfolds c =
    let old = graph_of c.args.graph.now in
    let node = node_of (spot_under (spots_in c.args.graph.now) c.args.trail) c.args.f c.args.f c.in_ok-inputs.inputs c.args.cache c.args.k in
    node_unfolds c.call.result old (graph_of c.call.new.self) node _ c.call.ensures.number c.call.ensures.ok (ap (TreeCall c.args.f node.place) (c.in_ok-inputs.ensures.trees old.nodes))

pub returns-clause-effects : goal.returns-clause-effects
returns-clause-effects c =
    unfolds_same c.call.result (graph_of c.args.graph.now) (graph_of c.call.new.self) _ (effects_below c.args.graph.now) c.call.ensures.ok c.call.ensures.err
