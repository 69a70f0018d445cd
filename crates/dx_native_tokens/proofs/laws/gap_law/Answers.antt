use Rattle.dx_native_tokens.proofs.GapLaw as law
use Rattle.dx_native_tokens.proofs.laws.gap_law.Goals as goal

pub returns-clause-stands : goal.returns-clause-stands
returns-clause-stands c = law.gap_stands

pub returns-clause-only : goal.returns-clause-only
returns-clause-only c = law.gap_only

pub returns-clause-longest : goal.returns-clause-longest
returns-clause-longest c = law.gap_longest
