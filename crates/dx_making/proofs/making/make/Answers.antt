use Rattle.dx_ast.specs.Plain.{plain_stmt}
use Rattle.dx_macros.specs.DictionaryView.{dictionary_of}
use Rattle.std.proofs.Common.{refl}
use Rattle.dx_engine.proofs.CutShort.{none_has_put}
use Rattle.dx_making.proofs.Made.{made_so, unmade_so}
use Rattle.dx_making.proofs.making.make.Goals as goal

pub returns-in-Ok-clause-makes : goal.returns-in-Ok-clause-makes
returns-in-Ok-clause-makes g c = λ map content sound.
    made_so _ c.args.state.now c.execute.new.self _ _ (dictionary_of c.args.d.now) c.args.frames.now (plain_stmt c.args.s.now) _ c.execute.result c.how_it_ends.result
    c.how_it_ends.ensures c.in-Ok.ensures.fault c.in-Ok.ensures.means (c.execute.ensures.executes map content sound)

pub returns-in-Err-Memory-clause-makes : goal.returns-in-Err-Memory-clause-makes
returns-in-Err-Memory-clause-makes g c = λ map content sound. unmade_so _ c.args.state.now _ (dictionary_of c.args.d.now) c.args.frames.now (plain_stmt c.args.s.now)

pub returns-in-Err-Memory-clause-written : goal.returns-in-Err-Memory-clause-written
returns-in-Err-Memory-clause-written g c = none_has_put (g.X.Exports.puts c.args.exports.now) c.args.state.now c.args.state.now refl

pub returns-in-Err-Fault-clause-written : goal.returns-in-Err-Fault-clause-written
returns-in-Err-Fault-clause-written g c = none_has_put (g.X.Exports.puts c.args.exports.now) c.args.state.now c.args.state.now refl
