use Rattle.dx_compute_meaning.proofs.Parsing as law
use Rattle.dx_compute_meaning.proofs.expression_law.Goals as goal

pub returns-clause-derived : goal.returns-clause-derived
returns-clause-derived c = law.is_text

pub returns-clause-read : goal.returns-clause-read
returns-clause-read c = law.parsed_ok

pub returns-clause-first_error : goal.returns-clause-first_error
returns-clause-first_error c = law.is_error

pub returns-clause-refused : goal.returns-clause-refused
returns-clause-refused c = law.parsed_err
