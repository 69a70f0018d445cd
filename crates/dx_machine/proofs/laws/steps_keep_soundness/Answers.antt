use Rattle.dx_machine.proofs.Keeping.{telling_keeps, hit_keeps, storing_keeps, emptying_keeps}
use Rattle.dx_machine.proofs.laws.steps_keep_soundness.Goals as goal

pub returns-clause-telling : goal.returns-clause-telling
returns-clause-telling c = telling_keeps

pub returns-clause-hit : goal.returns-clause-hit
returns-clause-hit c = hit_keeps

pub returns-clause-storing : goal.returns-clause-storing
returns-clause-storing c = storing_keeps

pub returns-clause-emptying : goal.returns-clause-emptying
returns-clause-emptying c = emptying_keeps
