use Rattle.std.proofs.Common.{◌++◌, ℕ, List, Option, reverse, ap, sym, ◌∙◌}
use Rattle.std.specs.Borrow.{Bor}
use Rattle.dx_macros.specs.Steps.{plain_step, plain_steps}
use Rattle.dx_graph.specs.Walked.{target_step}
use Rattle.dx_graph.proofs.Walking.{map_push, map_reverse, reverse_push}
use Rattle.dx_graph.proofs.trails.Trails.base.Goals as goal

pub returns-in-None : goal.returns-in-None
returns-in-None c =
    let back = reverse (plain_steps c.in_ok-way.way.steps.items) in
    ap plain_steps c.reverse.ensures.items
    ∙ map_reverse plain_step c.in_ok-way.way.steps.items
    ∙ ap (λ (t : Option (Bor (List ℕ))). target_step t ++ back) (sym c.in-None.is)
    ∙ c.in_ok-way.ensures.base

pub returns-in_ok-push-in-Some : goal.returns-in_ok-push-in-Some
returns-in_ok-push-in-Some c =
    let steps = c.in_ok-way.way.steps.items in
    let back = reverse (plain_steps steps) in
    ap plain_steps c.reverse-in-Some.ensures.items
    ∙ map_reverse plain_step c.push.new.self.items
    ∙ ap reverse (ap plain_steps c.in_ok-push-in-Some.ensures.items ∙ map_push plain_step steps _)
    ∙ reverse_push (plain_steps steps) _
    ∙ ap (λ (t : Option (Bor (List ℕ))). target_step t ++ back) (sym c.in-Some.is)
    ∙ c.in_ok-way.ensures.base
