use Rattle.dx_native_tokens.proofs.TextLaw as law
use Rattle.dx_native_tokens.proofs.laws.text_law.Goals as goal

pub returns-clause-some : goal.returns-clause-some
returns-clause-some c = law.has_tokens

pub returns-clause-one : goal.returns-clause-one
returns-clause-one c = law.one_here

pub returns-clause-apart : goal.returns-clause-apart
returns-clause-apart c = law.apart_here
