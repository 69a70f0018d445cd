use Rattle.std.proofs.Common.{◌≡◌, ◌<◌, ◌≤◌, ◌++◌, ◌∷◌, [], ℕ, List, Option, Some, length, reverse, ap, sym, subst, ◌∙◌, arith}
use Rattle.dx_macros.specs.Site.{Spot, Step, Nth, Target}
use Rattle.dx_macros.specs.Steps.{plain_step, plain_steps}
use Rattle.dx_graph.specs.Trails.{spot_under, spots_of, reach}
use Rattle.dx_graph.specs.declared.trail.Trail.{Trail}
use Rattle.dx_graph.specs.declared.trail.Trail.TheVariants as trail
use Rattle.dx_graph.proofs.Walking.{spot_read, parent_read, back_push, map_push}
use Rattle.dx_graph.proofs.trails.Trails.way.Goals as goal

below : (at : Option ℕ) (t n : ℕ) → at ≡ Some t → reach at ≤ n → t < n
below at t n is h = omega (arith, subst (λ (o : Option ℕ). reach o ≤ n) is h)

pub returns-in-Target-clause-base : goal.returns-in-Target-clause-base
returns-in-Target-clause-base c =
    let ts = c.self.inside.list.items in
    let back = reverse (plain_steps c.loop-at.steps.items) in
    let h = below c.loop-at.at c.in-Some.t (length ts) c.in-Some.is c.loop-at.invariant.0 in
    let here = spot_read ts c.loop-at.at c.in-Some.t c.index.result.now (trail.Target c.in-Target.name) c.self.invariant c.in-Some.is h c.index.ensures c.in-Target.is in
    ap (λ (n : List ℕ). Target n ∷ back) c.bytes.ensures
    ∙ ap (λ (s : Spot). s.base ++ back) (sym here)
    ∙ c.loop-at.invariant.1
    ∙ ap (λ (us : List Trail). (spot_under (spots_of us) c.args.trail).base) c.self.view_is

pub returns-in-Target-clause-path : goal.returns-in-Target-clause-path
returns-in-Target-clause-path c =
    let ts = c.self.inside.list.items in
    let back = reverse (plain_steps c.loop-at.steps.items) in
    let h = below c.loop-at.at c.in-Some.t (length ts) c.in-Some.is c.loop-at.invariant.0 in
    let here = spot_read ts c.loop-at.at c.in-Some.t c.index.result.now (trail.Target c.in-Target.name) c.self.invariant c.in-Some.is h c.index.ensures c.in-Target.is in
    ap (λ (s : Spot). s.path ++ back) (sym here)
    ∙ c.loop-at.invariant.2
    ∙ ap (λ (us : List Trail). (spot_under (spots_of us) c.args.trail).path) c.self.view_is

pub loop-at-preserved : goal.loop-at-preserved
loop-at-preserved c =
    let ts = c.self.inside.list.items in
    let spots = spots_of ts in
    let h = below c.loop-at.at c.in-Some.t (length ts) c.in-Some.is c.loop-at.invariant.0 in
    let y : Trail = trail.Macro c.in-Macro.parent c.in-Macro.name c.in-Macro.k in
    let here = spot_read ts c.loop-at.at c.in-Some.t c.index.result.now y c.self.invariant c.in-Some.is h c.index.ensures c.in-Macro.is in
    let steps = plain_steps c.loop-at.steps.items in
    let above = spot_under spots c.in-Macro.parent in
    let own : Step = Nth c.in-Macro.name c.in-Macro.k in
    let pushed : plain_steps c.push.new.self.items ≡ steps ++ own ∷ [] =
    ap plain_steps c.in_ok-push-in-Macro.ensures.items
    ∙ map_push plain_step c.loop-at.steps.items _
    ∙ ap (λ (n : List ℕ). steps ++ Nth n c.in-Macro.k ∷ []) c.bytes-in-Macro.ensures in (
      parent_read ts c.in-Some.t c.index.result.now y c.self.invariant h c.index.ensures c.in-Macro.is,
      ap (λ (xs : List Step). above.base ++ reverse xs) pushed ∙ back_push above.base steps own ∙ ap (λ (s : Spot). s.base ++ reverse steps) (sym here) ∙ c.loop-at.invariant.1,
      ap (λ (xs : List Step). above.path ++ reverse xs) pushed ∙ back_push above.path steps own ∙ ap (λ (s : Spot). s.path ++ reverse steps) (sym here) ∙ c.loop-at.invariant.2,
    )
