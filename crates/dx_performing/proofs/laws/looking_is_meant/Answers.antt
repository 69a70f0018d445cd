use Rattle.dx_performing.proofs.Meant.{scans_are_meant, effects_come_so}
use Rattle.dx_performing.proofs.laws.looking_is_meant.Goals as goal

pub returns-clause-scans : goal.returns-clause-scans
returns-clause-scans c = scans_are_meant

pub returns-clause-effects : goal.returns-clause-effects
returns-clause-effects c = effects_come_so
