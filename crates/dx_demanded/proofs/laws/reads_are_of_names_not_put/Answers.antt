use Rattle.dx_demanded.proofs.Reading.{runs_have_what_was_put, reads_are_of_names_not_put}
use Rattle.dx_demanded.proofs.laws.reads_are_of_names_not_put.Goals as goal

pub returns-clause-files : goal.returns-clause-files
returns-clause-files c = runs_have_what_was_put

pub returns-clause-reads : goal.returns-clause-reads
returns-clause-reads c = reads_are_of_names_not_put
