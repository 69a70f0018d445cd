use Rattle.dx_native_tokens.proofs.TokenLaw as law
use Rattle.dx_native_tokens.proofs.laws.token_law.Goals as goal

pub returns-clause-stands : goal.returns-clause-stands
returns-clause-stands c = law.next_stands

pub returns-clause-only : goal.returns-clause-only
returns-clause-only c = law.next_only

pub returns-clause-order : goal.returns-clause-order
returns-clause-order c = law.next_order
