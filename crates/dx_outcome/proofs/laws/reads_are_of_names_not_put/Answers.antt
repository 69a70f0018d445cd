use Rattle.dx_outcome.proofs.Asking.{reads_of_names_not_put, all_reads_of_names_not_put}
use Rattle.dx_outcome.proofs.laws.reads_are_of_names_not_put.Goals as goal

pub returns-clause-each : goal.returns-clause-each
returns-clause-each c = reads_of_names_not_put

pub returns-clause-all : goal.returns-clause-all
returns-clause-all c = all_reads_of_names_not_put
