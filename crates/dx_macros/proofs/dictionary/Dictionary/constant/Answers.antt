use Rattle.dx_macros.proofs.Constants.{lawful_if}
use Rattle.dx_macros.proofs.dictionary.Dictionary.constant.Goals as goal

pub returns-clause-lawful : goal.returns-clause-lawful
returns-clause-lawful c = lawful_if c.args.self.now c.constant_before.result c.constant_before.ensures.defined
