use Rattle.std.proofs.Common.{◌∙◌, ◌++◌, [], List, All, map, sym, ap, ap₂, subst}
use Rattle.dx_graph.specs.Graph as graphs
use Rattle.dx_graph.specs.Graph.{Node}
use Rattle.dx_graph.specs.GraphView.{graph_of}
use Rattle.dx_graph.specs.Operands.{GivenFits, given_of}
use Rattle.dx_macros.specs.Expansion.{effects_among, top_spot}
use Rattle.dx_macros.specs.Tree.{CallTree}
use Rattle.dx_texts.specs.Expanding.{function_call, function_expanded}
use Rattle.dx_texts.proofs.Adding.{no_effects}
use Rattle.dx_flat.proofs.flat.graph_of_one.Goals as goal

pub call_function-requires-clause-given : goal.call_function-requires-clause-given
call_function-requires-clause-given c =
    subst (λ (g : graphs.Graph). All (GivenFits g.nodes) c.args.given.now) (sym c.in_ok-graph.ensures.graph) c.requires.given

pub returns-in-Ok : goal.returns-in-Ok
returns-in-Ok c =
    let old = graph_of c.in_ok-graph.graph in
    let f = c.args.function in
    let made : List CallTree → List Node → List CallTree =
    λ before nodes. before ++ effects_among (function_expanded f (function_call (top_spot []) f c.args.cache 1 (map (given_of nodes) c.args.given.now))).kept in
    c.in-Ok.ensures.expands.effects
    ∙ ap₂ made (no_effects old (ap (λ (g : graphs.Graph). g.effects) c.in_ok-graph.ensures.graph)) (ap (λ (g : graphs.Graph). g.nodes) c.in_ok-graph.ensures.graph)
