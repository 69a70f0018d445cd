use Rattle.dx_native_tokens.proofs.LineLaw as law
use Rattle.dx_native_tokens.proofs.laws.line_law.Goals as goal

pub returns-clause-stands : goal.returns-clause-stands
returns-clause-stands c = law.end_stands

pub returns-clause-ends : goal.returns-clause-ends
returns-clause-ends c = law.end_read

pub returns-clause-fails : goal.returns-clause-fails
returns-clause-fails c = law.fault_read
