use Rattle.std.proofs.Common.{◌∙◌, List, All, length, ap, subst, sym, arith}
use Rattle.dx_ast.specs.Classes.{Text}
use Rattle.dx_ast.specs.Lawful.{IsName}
use Rattle.dx_graph.specs.GraphView.{spots_in}
use Rattle.dx_texts.proofs.Spots.{top_spot_lawful}
use Rattle.dx_graph.specs.Graph.{Graph}
use Rattle.dx_texts.specs.Expanding.{Remembers}
use Rattle.dx_definitions.specs.Index.{text_of}
use Rattle.dx_macros.specs.Expansion.{top_spot}
use Rattle.dx_texts.proofs.Standing.{grows_on}
use Rattle.dx_graph.proofs.Growing.{if_ok, on_ok}
use Rattle.dx_expansion.proofs.Driving.{at_top}
use Rattle.dx_expansion.proofs.driver.expand_assign.Goals as goal

pub expand_expr-requires-clause-ready : goal.expand_expr-requires-clause-ready
expand_expr-requires-clause-ready c =
    let w = c.args.w.now in
    c.text_at_top-text.ensures.ready c.first_trail.new.graph (subst (λ (g : Graph). Remembers g.nodes w) (sym c.first_trail.ensures.graph) c.requires.memo) c.in_ok-trail.ensures.trail
    (top_spot_lawful (spots_in c.first_trail.new.graph) c.in_ok-trail.trail c.as_slice.result.now c.in_ok-trail.ensures.spot (subst (λ (ts : List Text). ∥ All IsName ts ∥₁) (sym c.as_slice.ensures) c.requires.names))

pub expand_expr-requires-clause-walked : goal.expand_expr-requires-clause-walked
expand_expr-requires-clause-walked c = c.text_at_top-text.ensures.walked (text_of c.args.a.now) c.requires.walked

pub expand_expr-requires-clause-few : goal.expand_expr-requires-clause-few
expand_expr-requires-clause-few c = omega (arith, c.requires.few, ap (λ (g : Graph). length g.nodes) c.first_trail.ensures.graph, c.text_at_top-text.ensures.calls (text_of c.args.a.now))

pub returns-clause-adds : goal.returns-clause-adds
returns-clause-adds c =
    let nodes = ap (λ (g : Graph). length g.nodes) c.first_trail.ensures.graph in
    on_ok c.expand_expr.result (λ adds. omega (arith, adds, nodes, c.text_at_top-text.ensures.calls (text_of c.args.a.now))) c.expand_expr.ensures.adds

pub returns-clause-grows : goal.returns-clause-grows
returns-clause-grows c = grows_on c.args.graph.now c.first_trail.new.graph c.expand_expr.new.graph c.first_trail.ensures.grows c.expand_expr.ensures.grows

pub returns-clause-expands : goal.returns-clause-expands
returns-clause-expands c =
    let w = c.args.w.now in
    let mid = c.first_trail.new.graph in
    if_ok c.expand_expr.result (λ r h. at_top w c.args.position (text_of c.args.a.now) _ _ _ c.args.graph.now mid c.expand_expr.new.graph r c.new-before.ensures
    (c.text_at_top-text.ensures.setting mid) (c.in_ok-trail.ensures.spot ∙ ap top_spot c.as_slice.ensures) c.first_trail.ensures.graph h) c.expand_expr.ensures.expands
