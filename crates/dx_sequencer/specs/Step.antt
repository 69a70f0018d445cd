-- What a step's answer says: the frame that it had, if it had one.
use Rattle.std.specs.Prelude.{ℤ, Option, Some, None}
use Rattle.dx_sequencer.specs.declared.sequencer.Step.{Step}
use Rattle.dx_sequencer.specs.declared.sequencer.Step.TheVariants.{Frame, Ended}

abbrev pub step_of : Step → Option ℤ
step_of (Frame x) = Some x
step_of Ended = None
