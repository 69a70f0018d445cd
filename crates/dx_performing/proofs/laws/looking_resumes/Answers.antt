use Rattle.dx_performing.proofs.Resumed as resumed
use Rattle.dx_performing.proofs.laws.looking_resumes.Goals as goal

pub returns : goal.returns
returns c = resumed.looking_resumes
