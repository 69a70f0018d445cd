-- How many executions a workload has.
use Rattle.std.specs.Prelude.{◌≤◌}
use Rattle.dx_words.specs.declared.words.Job.{Job}
use Rattle.dx_words.specs.declared.words.Job.TheVariants.{Session, Workload}

abbrev pub IsInRange : Job → Type 0
IsInRange (Session name) = Unit {0}
IsInRange (Workload n) = (1 ≤ n) × (n ≤ 100000)
