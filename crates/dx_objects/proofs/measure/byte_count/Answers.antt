use Rattle.std.proofs.Common.{arith}
use Rattle.std.proofs.lemmas.List.{get_or_default}
use Rattle.dx_objects.proofs.measure.byte_count.Goals as goal

pub returns-clause-bytes : goal.returns-clause-bytes
returns-clause-bytes c = λ k d h. rw (get_or_default c.args.bytes.now k d 0 h) (omega (arith, c.type_inv.bytes k))
