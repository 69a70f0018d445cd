use Rattle.dx_performing.proofs.Executed.{leaves_what_is_meant}
use Rattle.dx_performing.proofs.laws.executions_leave_what_is_meant.Goals as goal

pub returns : goal.returns
returns c = leaves_what_is_meant
