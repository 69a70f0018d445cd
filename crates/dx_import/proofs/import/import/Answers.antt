use Rattle.std.proofs.Common.{List, ℕ, Option, subst}
use Rattle.dx_import.specs.Import.{meaning, imported}
use Rattle.dx_objects.specs.Runs.{Gives}
use Rattle.dx_import.proofs.import.import.Goals as goal

pub returns : goal.returns
returns c =
    subst (λ (w : Option (List ℕ)). Gives (imported (meaning c.args.bytes.now w)) c.answer.result) c.in_ok-which.ensures
    (c.answer.ensures (meaning c.args.bytes.now c.in_ok-which.which) c.read_named.ensures.means)
