use Rattle.dx_slab.proofs.GridLaws.{gives_grid}
use Rattle.dx_slab.proofs.laws.grid_law.Goals as goal

pub returns : goal.returns
returns c = gives_grid
