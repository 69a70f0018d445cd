use Rattle.dx_native_tokens.proofs.NumberLaw as law
use Rattle.dx_native_tokens.proofs.laws.number_law.Goals as goal

pub returns-clause-stands : goal.returns-clause-stands
returns-clause-stands c = law.word_stands

pub returns-clause-only : goal.returns-clause-only
returns-clause-only c = law.word_read

pub returns-clause-none : goal.returns-clause-none
returns-clause-none c = law.no_number_stands
