use Rattle.std.proofs.Common.{◌<◌, ◌++◌, ◌∷◌, [], List, length, subst, is_ok, arith, length-append}
use Rattle.std.proofs.lemmas.List.{length-map}
use Rattle.dx_graph.specs.Trails.{IsTrail, spots_of}
use Rattle.dx_graph.specs.Graph.{IsGraph}
use Rattle.dx_graph.specs.Shown.{graph_with, ArePlaced, plain_node}
use Rattle.dx_graph.specs.declared.node.Placed.{Placed}
use Rattle.dx_graph.proofs.Growing.{either, lawful_push, placed_push, count_spots}
use Rattle.dx_graph.proofs.graph.Graph.call.Goals as goal

pub invariant_of-self : goal.invariant_of-self
invariant_of-self c =
    let self = c.args.self.now in
    let old = self.nodes.items in
    let new = c.push.new.self.items in
    let p : Placed = record { node = record { what = c.args.called; inputs = c.args.inputs; cache = c.args.cache }; called = c.args.called; trail = c.args.trail; k = c.args.k } in
    let count = length self.trails in
    let placed : IsTrail count c.args.trail = subst (λ n. IsTrail n c.args.trail) (count_spots self.trails) c.requires.trail in
    let Few : List Placed → Type 0 = λ ps. length ps < 4294967296 in
    let Lawful : List Placed → Type 0 = λ ps. ∥ IsGraph (graph_with self.trails ps self.effects.items) ∥₁ in
    record {
      few = either Few (is_ok c.push.result) old (old ++ p ∷ []) new (omega (arith, self.few)) (omega (arith, length-append old (p ∷ []), c.requires.few, length-map old (plain_node (spots_of self.trails)))) c.push.ensures.items;
      placed = either (ArePlaced count) (is_ok c.push.result) old (old ++ p ∷ []) new self.placed (placed_push count old p self.placed placed) c.push.ensures.items;
      lawful = either Lawful (is_ok c.push.result) old (old ++ p ∷ []) new self.lawful (lawful_push self.trails old p self.effects.items self.lawful c.requires.node) c.push.ensures.items;
    }
