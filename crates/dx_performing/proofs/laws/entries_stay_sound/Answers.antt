use Rattle.dx_performing.proofs.EntriesSound as sound
use Rattle.dx_performing.proofs.laws.entries_stay_sound.Goals as goal

pub returns : goal.returns
returns c = sound.entries_stay_sound
