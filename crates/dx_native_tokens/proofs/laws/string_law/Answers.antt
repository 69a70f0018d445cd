use Rattle.dx_native_tokens.proofs.ScriptLaw as law
use Rattle.dx_native_tokens.proofs.laws.string_law.Goals as goal

pub returns : goal.returns
returns c = law.same
