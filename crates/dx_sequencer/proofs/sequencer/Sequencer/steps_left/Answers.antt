use Rattle.std.proofs.Common.{refl}
use Rattle.dx_sequencer.proofs.Plays.{play_of}
use Rattle.dx_sequencer.proofs.sequencer.Sequencer.steps_left.Goals as goal

pub returns : goal.returns
returns c =
    play_of c.args.self.now c.delta.result c.distance_left.result c.pieces.result c.delta.ensures.same (c.if-not-has_next.ensures.from refl) (c.if-not-has_next.ensures.to refl)
    c.distance_left.ensures.ahead c.distance_left.ensures.behind c.pieces.ensures.within c.pieces.ensures.past
