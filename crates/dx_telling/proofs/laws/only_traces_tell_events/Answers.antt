use Rattle.dx_telling.proofs.Texts.{untraced}
use Rattle.dx_telling.proofs.laws.only_traces_tell_events.Goals as goal

pub returns : goal.returns
returns c = untraced
