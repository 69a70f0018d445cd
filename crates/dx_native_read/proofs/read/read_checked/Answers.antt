use Rattle.std.proofs.Common.{Result, Ok, sym, ap, ◌∙◌}
use Rattle.dx_base.specs.Object.{Tree}
use Rattle.dx_native_lex.specs.declared.fault.NativeError.{NativeError}
use Rattle.dx_native_read.proofs.read.read_checked.Goals as goal

abbrev answered : Tree → Result Tree NativeError
answered t = Ok t

pub returns-in_ok-with_check-in-Ok-clause-only : goal.returns-in_ok-with_check-in-Ok-clause-only
returns-in_ok-with_check-in-Ok-clause-only c = λ r h. c.in-Ok.ensures.only r h ∙ ap answered (sym c.in_ok-with_check-in-Ok.ensures.object)
