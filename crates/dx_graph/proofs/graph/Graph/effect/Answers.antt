use Rattle.std.proofs.Common.{◌++◌, ◌∷◌, [], ℕ, List, is_ok}
use Rattle.dx_graph.specs.Graph.{IsGraph}
use Rattle.dx_graph.specs.Shown.{graph_with}
use Rattle.dx_graph.proofs.Growing.{either, effects_push}
use Rattle.dx_graph.proofs.graph.Graph.effect.Goals as goal

pub invariant_of-self : goal.invariant_of-self
invariant_of-self c =
    let self = c.args.self.now in
    let old = self.effects.items in
    let Lawful : List ℕ → Type 0 = λ es. ∥ IsGraph (graph_with self.trails self.nodes.items es) ∥₁ in
    record {
      few = self.few;
      placed = self.placed;
      lawful = either Lawful (is_ok c.push.result) old (old ++ c.args.n ∷ []) c.push.new.self.items self.lawful
          (effects_push (graph_with self.trails self.nodes.items old) c.args.n self.lawful c.requires) c.push.ensures.items;
    }
