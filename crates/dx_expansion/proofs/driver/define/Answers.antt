use Rattle.std.proofs.Common.{◌∙◌, refl, ap, length}
use Rattle.std.proofs.lemmas.List.{length-set}
use Rattle.dx_expansion.proofs.Driving.{rests_learned}
use Rattle.dx_expansion.proofs.driver.define.Goals as goal

pub returns-clause-rests : goal.returns-clause-rests
returns-clause-rests c =
    let w = c.args.w.now in
    let kept = c.in_ok-set.ensures.ok in
    rests_learned w _ c.args.graph.now c.expand_definition.new.graph c.forget_effects.new.self c.args.i c.in_ok-results.results
    (record { dictionary = refl; frames = refl; places = ap length kept ∙ length-set w.memo c.args.i _ }) c.requires.below kept c.requires.rests
    c.expand_definition.ensures.grows.nodes c.in_ok-results.ensures.gives c.forget_effects.ensures.graph
