use Rattle.dx_arrays.proofs.CellLaws.{corners_ascend, corners_are, corners_all, corners_inside}
use Rattle.dx_arrays.proofs.laws.cell_law.Goals as goal

pub returns-clause-ascending : goal.returns-clause-ascending
returns-clause-ascending c = corners_ascend

pub returns-clause-corner : goal.returns-clause-corner
returns-clause-corner c = corners_are

pub returns-clause-every : goal.returns-clause-every
returns-clause-every c = corners_all

pub returns-clause-point : goal.returns-clause-point
returns-clause-point c = corners_inside
