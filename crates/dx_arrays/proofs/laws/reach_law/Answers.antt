use Rattle.dx_arrays.proofs.Corners.{lowest_reached, highest_reached, lowest-le_offset, offset-le_highest}
use Rattle.dx_arrays.proofs.laws.reach_law.Goals as goal

pub returns-clause-lowest : goal.returns-clause-lowest
returns-clause-lowest c = lowest_reached

pub returns-clause-highest : goal.returns-clause-highest
returns-clause-highest c = highest_reached

pub returns-clause-not_below : goal.returns-clause-not_below
returns-clause-not_below c = lowest-le_offset

pub returns-clause-not_above : goal.returns-clause-not_above
returns-clause-not_above c = offset-le_highest
