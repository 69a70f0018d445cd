use Rattle.std.proofs.Common.{Some, sym, ap, ◌∙◌}
use Rattle.dx_base.specs.Object.{Tree}
use Rattle.dx_native_read.proofs.Answered.{fails_mean}
use Rattle.dx_native_read.proofs.Stepping.{step}
use Rattle.dx_native_read.proofs.read.object_from.Goals as goal

pub returns-in-Ok-clause-ints : goal.returns-in-Ok-clause-ints
returns-in-Ok-clause-ints c = step c.args.clauses c.requires.sound 64 c.args.i c.within_limits.result (c.in-Ok.ensures.built ∙ ap (λ (t : Tree). Some t) (sym c.within_limits.ensures.same))

pub returns-in-Err-clause-means : goal.returns-in-Err-clause-means
returns-in-Err-clause-means c =
    fails_mean c.args.clauses c.requires.sound c.requires.references c.args.i c.args.at c.requires.levels c.in-Err.fail c.in-Err.ensures.built c.native_fail.result c.native_fail.ensures

pub clause_object-requires : goal.clause_object-requires
clause_object-requires c = c.in_ok-memo.ensures c.args.clauses c.requires.arrays
