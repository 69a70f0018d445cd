use Rattle.std.proofs.Common.{◌∙◌, sym}
use Rattle.dx_ast.specs.Plain.{plain_args}
use Rattle.dx_signatures.specs.Callees.{param_names}
use Rattle.dx_signatures.specs.Faults.{arg_names}
use Rattle.dx_signatures.proofs.Fits.{unnamed_fit}
use Rattle.dx_signatures.proofs.signature.fits_macro.Goals as goal

pub returns-then-not-has_named : goal.returns-then-not-has_named
returns-then-not-has_named c = sym (unnamed_fit (arg_names (plain_args c.args.args.now)) (sym c.has_named.ensures ∙ c.if-not-has_named.true) (param_names c.args.params.now))
