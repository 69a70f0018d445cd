use Rattle.std.proofs.Common.{Option, sym, subst, arith}
use Rattle.dx_base.specs.Object.{Tree}
use Rattle.dx_native_meaning.proofs.OneLevel.{no_clause}
use Rattle.dx_native_walk.specs.Answer.{BuildsObject}
use Rattle.dx_native_walk.proofs.Bodies.{one_more}
use Rattle.dx_native_walk.proofs.walk.clause_object.Goals as goal

pub returns-in-None-clause-built : goal.returns-in-None-clause-built
returns-in-None-clause-built c = no_clause c.args.clauses.now c.args.i 64 c.in-None.ensures

pub returns-in-Some-clause-built : goal.returns-in-Some-clause-built
returns-in-Some-clause-built c = subst (λ (m : Option Tree). BuildsObject m c.object_of.result) (sym (one_more c.args.clauses.now c.args.i 64 (omega arith))) c.object_of.ensures.built
