use Rattle.dx_meaning.proofs.Keeping.{scan_keeps}
use Rattle.dx_meaning.proofs.laws.scans_stay.Goals as goal

pub returns : goal.returns
returns c = scan_keeps
