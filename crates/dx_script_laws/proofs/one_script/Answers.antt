use Rattle.dx_script_laws.proofs.OneScript as law
use Rattle.dx_script_laws.proofs.one_script.Goals as goal

pub returns-clause-some : goal.returns-clause-some
returns-clause-some c = law.has_meaning

pub returns-clause-script : goal.returns-clause-script
returns-clause-script c = law.one_script

pub returns-clause-error : goal.returns-clause-error
returns-clause-error c = law.one_first_error

pub returns-clause-never_both : goal.returns-clause-never_both
returns-clause-never_both c = law.not_both
