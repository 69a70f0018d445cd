use Rattle.std.proofs.Common.{None, Some, sym, subst}
use Rattle.dx_import.specs.Import.{meaning}
use Rattle.dx_import.proofs.Found.{is_native}
use Rattle.dx_native_read.specs.Answer.{Means}
use Rattle.dx_native_read.specs.Found.{checked_object}
use Rattle.dx_import.proofs.import.read_named.Goals as goal

pub returns-in-None-clause-means : goal.returns-in-None-clause-means
returns-in-None-clause-means c =
    subst (λ w. Means (meaning c.args.bytes.now w) (checked_object c.read_checked.result)) (sym c.in-None.is)
    (c.read_checked.ensures.only (meaning c.args.bytes.now None) (is_native c.args.bytes.now None))

pub returns-in-Some-clause-means : goal.returns-in-Some-clause-means
returns-in-Some-clause-means c =
    subst (λ w. Means (meaning c.args.bytes.now w) (checked_object c.read_checked-in-Some.result)) (sym c.in-Some.is)
    (c.read_checked-in-Some.ensures.only (meaning c.args.bytes.now (Some c.in-Some.name)) (is_native c.args.bytes.now (Some c.in-Some.name)))
