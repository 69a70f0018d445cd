-- How a getting fails: it is refused, or cut short.
use Rattle.std.specs.Prelude.{Option, Some, Result, Ok, Err}
use Rattle.dx_getting.specs.declared.fail.GetFail.{GetFail}
use Rattle.dx_getting.specs.declared.fail.GetFail.TheVariants as fail
use Rattle.dx_looking.specs.declared.cut.Cut.{Cut}
use Rattle.dx_looking.specs.declared.cut.Cut.TheVariants.{ReadFault, Memory}
use Rattle.dx_looking.specs.declared.looked.Refusal.{Refusal}

abbrev pub failed_so : GetFail → Result (Option Refusal) Cut
failed_so (fail.Refused tag code) = Ok (Some (record { tag = tag; code = code }))
failed_so fail.ReadFault = Err ReadFault
failed_so fail.Memory = Err Memory
