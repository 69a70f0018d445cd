use Rattle.dx_native_grammar.proofs.Once.{once, always}
use Rattle.dx_native_law.proofs.laws.native_law.Goals as goal

pub returns-clause-once : goal.returns-clause-once
returns-clause-once c = once

pub returns-clause-always : goal.returns-clause-always
returns-clause-always c = always
