-- The code that a run ends with, if it isn't cut short.
use Rattle.std.specs.Prelude.{Option, Some, None}
use Rattle.dx_base.specs.declared.code.Code.{Code}
use Rattle.dx_objects.specs.declared.run_fail.RunFail.{RunFail}
use Rattle.dx_objects.specs.declared.run_fail.RunFail.TheVariants as fail

abbrev pub code_in : RunFail → Option Code
code_in (fail.Code code) = Some code
code_in fail.Memory = None
