use Rattle.dx_performing.proofs.LinksSound as sound
use Rattle.dx_performing.proofs.laws.links_stay_right.Goals as goal

pub returns-clause-links : goal.returns-clause-links
returns-clause-links c = sound.links_stay_right

pub returns-clause-sets : goal.returns-clause-sets
returns-clause-sets c = sound.sets_are_right
