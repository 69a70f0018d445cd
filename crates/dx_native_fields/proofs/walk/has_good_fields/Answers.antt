use Rattle.std.proofs.Common.{arith}
use Rattle.dx_native_fields.proofs.Looking.{one_level}
use Rattle.dx_native_fields.proofs.walk.has_good_fields.Goals as goal

pub object_good-requires-clause-means : goal.object_good-requires-clause-means
object_good-requires-clause-means c = one_level c.args.clauses.now c.args.i 64 c.args.object.now (omega arith) c.requires.means
