use Rattle.dx_ending.proofs.SetLaws.{sets_alike}
use Rattle.dx_ending.proofs.laws.changes_set_terms.Goals as goal

pub returns : goal.returns
returns c = sets_alike
