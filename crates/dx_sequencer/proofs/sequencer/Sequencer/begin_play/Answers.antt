use Rattle.std.proofs.Common.{subst, arith}
use Rattle.dx_sequencer.specs.Sequencer as spec
use Rattle.dx_sequencer.specs.Sequencer.{IsPlay}
use Rattle.dx_sequencer.proofs.Playing.{some_steps}
use Rattle.dx_sequencer.proofs.sequencer.Sequencer.begin_play.Goals as goal

pub returns-clause-counted : goal.returns-clause-counted
returns-clause-counted c =
    let steps = c.steps_left-steps.result in
    let at = spec.at_play c.args.self.now in
    let play : IsPlay at steps = subst (λ (s : spec.State). IsPlay s steps) c.begin.ensures c.steps_left-steps.ensures in
    some_steps at steps play (omega (arith, c.if-steps-gt-MAX_STEPS.false))
