-- What a check tells: the text of the first fault's site and its kind, or that there is none.
use Rattle.std.specs.Prelude.{◌≡◌, Option, Some, None, option_map, Result, Ok, Err}
use Rattle.dx_ast.specs.Classes.{Text}
use Rattle.dx_macros.specs.Site.{steps_text}
use Rattle.dx_macros.specs.Walk.{Fault}
use Rattle.dx_signatures.specs.declared.fault.StaticFault.{StaticFault}
use Rattle.dx_macros.specs.declared.fault.CheckFail.{CheckFail}
use Rattle.dx_macros.specs.declared.fault.CheckFail.TheVariants as fail

abbrev pub told : Fault → Text × StaticFault
told f = (steps_text f.site, f.fault)

-- there is no fault; or this is the first; or memory ran out
abbrev pub Checks : {A : Type 0} → Option Fault → Result A CheckFail → Type 0
Checks first (Ok a) = first ≡ None
Checks first (Err (fail.Fault site f)) = option_map told first ≡ Some (site, f)
Checks first (Err fail.Memory) = Unit {0}
