use Rattle.dx_resuming.proofs.Covers as covers
use Rattle.dx_resuming.proofs.laws.closed_covers.Goals as goal

pub returns-clause-one : goal.returns-clause-one
returns-clause-one c = covers.closed_covers

pub returns-clause-all : goal.returns-clause-all
returns-clause-all c = covers.all_closed_cover
