use Rattle.std.proofs.Common.{◌++◌, ◌∷◌, [], ap, sym, subst, ◌∙◌}
use Rattle.dx_graph.specs.Trails.{spot_of, spots_of}
use Rattle.dx_graph.specs.Graph.{Graph, IsGraph}
use Rattle.dx_graph.specs.declared.trail.Trail.TheVariants as trail
use Rattle.dx_graph.proofs.Earlier.{one_more}
use Rattle.dx_graph.proofs.Growing.{longer, on_ok, if_ok, same_graph, placed_more, count_spots}
use Rattle.dx_graph.proofs.graph.Graph.target.Goals as goal

pub invariant_of-self : goal.invariant_of-self
invariant_of-self c =
    let self = c.args.self.now in
    let old = self.trails in
    let new = c.push.new.self in
    let more = longer c.push.result old new (trail.Target c.in_ok-name.name) c.push.ensures.ok c.push.ensures.err in
    record {
      few = self.few;
      placed = placed_more old new more.0 self.nodes.items more.1 self.placed;
      lawful = subst (λ (g : Graph). ∥ IsGraph g ∥₁) (sym (same_graph old new more.0 self.nodes.items self.effects.items more.1 self.placed)) self.lawful;
    }

pub returns-clause-number : goal.returns-clause-number
returns-clause-number c = if_ok c.push.result (λ t e. e ∙ sym (count_spots c.args.self.now.trails)) c.push.ensures.number

pub returns-clause-ok : goal.returns-clause-ok
returns-clause-ok c =
    let old = c.args.self.now.trails in
    on_ok c.push.result (λ e. ap spots_of e ∙ one_more spot_of old (trail.Target c.in_ok-name.name) ∙ ap (λ n. spots_of old ++ spot_of (spots_of old) (trail.Target n) ∷ []) c.in_ok-name.ensures) c.push.ensures.ok

pub returns-clause-graph : goal.returns-clause-graph
returns-clause-graph c =
    let self = c.args.self.now in
    let more = longer c.push.result self.trails c.push.new.self (trail.Target c.in_ok-name.name) c.push.ensures.ok c.push.ensures.err in
    same_graph self.trails c.push.new.self more.0 self.nodes.items self.effects.items more.1 self.placed
