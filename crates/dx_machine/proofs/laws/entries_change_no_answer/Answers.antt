use Rattle.dx_machine.proofs.Agreeing.{getting_agrees, plain_agrees}
use Rattle.dx_machine.proofs.laws.entries_change_no_answer.Goals as goal

pub returns-clause-with_entries : goal.returns-clause-with_entries
returns-clause-with_entries c = getting_agrees

pub returns-clause-without : goal.returns-clause-without
returns-clause-without c = plain_agrees
