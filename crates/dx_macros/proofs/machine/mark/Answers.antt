use Rattle.std.proofs.Common.{◌∙◌, ap, Some}
use Rattle.std.specs.Prelude.{is_some}
use Rattle.std.proofs.lemmas.List.{map-set}
use Rattle.dx_base.specs.Places.{flags}
use Rattle.dx_macros.proofs.Defining.{on_ok}
use Rattle.dx_macros.proofs.machine.mark.Goals as goal

pub returns : goal.returns
returns c = on_ok c.set.result (λ e. ap flags e ∙ map-set is_some c.args.read.now c.args.i (Some tt)) c.set.ensures.ok
