use Rattle.std.proofs.Common.{ℕ, List, sym, subst}
use Rattle.dx_graph.specs.Graph.{IsGraph}
use Rattle.dx_graph.specs.Shown.{graph_with}
use Rattle.dx_graph.proofs.Growing.{effects_take}
use Rattle.dx_graph.proofs.graph.Graph.forget_effects.Goals as goal

pub invariant_of-self : goal.invariant_of-self
invariant_of-self c =
    let self = c.args.self.now in
    let Lawful : List ℕ → Type 0 = λ es. ∥ IsGraph (graph_with self.trails self.nodes.items es) ∥₁ in
    record {
      few = self.few;
      placed = self.placed;
      lawful = subst Lawful (sym c.truncate.ensures.items) (effects_take (graph_with self.trails self.nodes.items self.effects.items) c.args.count self.lawful);
    }
