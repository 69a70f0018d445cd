use Rattle.std.proofs.Common.{Option, Ok, Err, refl}
use Rattle.dx_ast.specs.Plain.{plain_stmt}
use Rattle.dx_macros.specs.DictionaryView.{dictionary_of}
use Rattle.dx_performing.specs.Course.{Fixed}
use Rattle.dx_engine.specs.Keeping.{kept_of, IsSoundState}
use Rattle.dx_shown.specs.Made.{coursed}
use Rattle.dx_making.specs.Making.{MakesSo}
use Rattle.dx_telling.proofs.Made.{made_tells}
use Rattle.dx_making.specs.declared.failing.Failing.{Failing}
use Rattle.dx_sessions.specs.Does.{devices}
use Rattle.dx_sessions.specs.Keeping.{counts}
use Rattle.dx_sessions.specs.declared.ended.Ended.{Ended}
use Rattle.dx_sessions.proofs.Keeping.{keeps_as, keeps_of, keeps_on, line_cut, line_kept, same_end}
use Rattle.dx_sessions.proofs.Executions.{over_from, made_whole, behind_kept, cut_telling, cut_in}
use Rattle.dx_sessions.proofs.executing.execute.Goals as goal

pub returns-clause-executes : goal.returns-clause-executes
returns-clause-executes g c = λ x answers files sound.
    let was = devices (g.L.Library.done c.args.lib.now) (g.F.Files.asked c.args.files.now) (g.O.Sink.written c.args.out.now) (g.X.Exports.puts c.args.exports.now) in
    let now = devices (g.L.Library.done c.make.new.lib) (g.F.Files.asked c.make.new.files) (g.O.Sink.written c.make.new.out) (g.X.Exports.puts c.make.new.exports) in
    cut_in x c.args.listings c.args.state.now c.make.new.state (coursed x (dictionary_of c.args.d.now) c.args.frames.now (plain_stmt c.args.s.now) (kept_of c.args.state.now)) was now c.in-Err.end
    c.in-Err.ensures.links
    (over_from g.L.Library.answer (g.F.Files.content c.args.files.now) c.args.state.now (λ (y : Fixed). IsSoundState y c.make.new.state) c.make.ensures.sound x answers files sound)
    (over_from g.L.Library.answer (g.F.Files.content c.args.files.now) c.args.state.now (λ (y : Fixed). MakesSo y c.args.state.now (coursed y (dictionary_of c.args.d.now) c.args.frames.now (plain_stmt c.args.s.now) (kept_of c.args.state.now)) was (Err c.in-Err.end) c.make.new.state now)
    c.in-Err.ensures.makes x answers files sound)

pub returns-in-Ok-tell_behind-clause-executes : goal.returns-in-Ok-tell_behind-clause-executes
returns-in-Ok-tell_behind-clause-executes g c = λ x answers files sound.
    let was = devices (g.L.Library.done c.args.lib.now) (g.F.Files.asked c.args.files.now) (g.O.Sink.written c.args.out.now) (g.X.Exports.puts c.args.exports.now) in
    let mid = devices (g.L.Library.done c.make.new.lib) (g.F.Files.asked c.make.new.files) (g.O.Sink.written c.make.new.out) (g.X.Exports.puts c.make.new.exports) in
    let now = devices (g.L.Library.done c.make.new.lib) (g.F.Files.asked c.make.new.files) (g.O.Sink.written c.tell_behind.new.out) (g.X.Exports.puts c.make.new.exports) in
    let made = coursed x (dictionary_of c.args.d.now) c.args.frames.now (plain_stmt c.args.s.now) (kept_of c.args.state.now) in
    let m = over_from g.L.Library.answer (g.F.Files.content c.args.files.now) c.args.state.now (λ (y : Fixed). MakesSo y c.args.state.now (coursed y (dictionary_of c.args.d.now) c.args.frames.now (plain_stmt c.args.s.now) (kept_of c.args.state.now)) was (Ok c.in-Ok.failing) c.make.new.state mid)
    c.in-Ok.ensures.makes x answers files sound in
    made_whole x c.args.listings c.args.state.now c.make.new.state made was mid now c.in-Ok.failing c.how.result m
    (c.in-Ok-tell_behind.ensures.tells made.0 (made_tells x (dictionary_of c.args.d.now) c.args.frames.now (plain_stmt c.args.s.now) c.args.state.now c.make.new.state was mid c.in-Ok.failing m)) refl refl c.how.ensures.error

pub returns-in-Ok-clause-executes : goal.returns-in-Ok-clause-executes
returns-in-Ok-clause-executes g c = λ x answers files sound.
    let was = devices (g.L.Library.done c.args.lib.now) (g.F.Files.asked c.args.files.now) (g.O.Sink.written c.args.out.now) (g.X.Exports.puts c.args.exports.now) in
    let mid = devices (g.L.Library.done c.make.new.lib) (g.F.Files.asked c.make.new.files) (g.O.Sink.written c.make.new.out) (g.X.Exports.puts c.make.new.exports) in
    let now = devices (g.L.Library.done c.make.new.lib) (g.F.Files.asked c.make.new.files) (g.O.Sink.written c.tell_behind.new.out) (g.X.Exports.puts c.make.new.exports) in
    let made = coursed x (dictionary_of c.args.d.now) c.args.frames.now (plain_stmt c.args.s.now) (kept_of c.args.state.now) in
    let m = over_from g.L.Library.answer (g.F.Files.content c.args.files.now) c.args.state.now (λ (y : Fixed). MakesSo y c.args.state.now (coursed y (dictionary_of c.args.d.now) c.args.frames.now (plain_stmt c.args.s.now) (kept_of c.args.state.now)) was (Ok c.in-Ok.failing) c.make.new.state mid)
    c.in-Ok.ensures.makes x answers files sound in
    cut_telling _ x c.args.listings c.args.state.now c.make.new.state made was mid now c.in-Ok.failing (behind_kept x (dictionary_of c.args.d.now) c.args.frames.now (plain_stmt c.args.s.now) (kept_of c.args.state.now)) m
    (c.in-Err-tell_behind.ensures.tells made.0 (made_tells x (dictionary_of c.args.d.now) c.args.frames.now (plain_stmt c.args.s.now) c.args.state.now c.make.new.state was mid c.in-Ok.failing m)) refl refl

pub returns-clause-keeps : goal.returns-clause-keeps
returns-clause-keeps g c =
    let made = c.in-Err.ensures in
    keeps_as c.args.state.now c.make.new.state _ _ (Err c.in-Err.end) (Err c.in-Err.end) (λ fault e. same_end (Option Failing) Ended c.in-Err.end fault e) (λ fault e. same_end Ended (Option Failing) c.in-Err.end fault e)
    (keeps_of c.args.state.now c.make.new.state _ _ (Err c.in-Err.end) made.same made.read_cause made.write_cause made.export_cause made.fits made.written)

pub returns-in-Ok-tell_behind-clause-keeps : goal.returns-in-Ok-tell_behind-clause-keeps
returns-in-Ok-tell_behind-clause-keeps g c =
    let made = c.in-Ok.ensures in
    let mid = counts (g.F.Files.content c.make.new.files) (g.F.Files.faults c.make.new.files) (g.O.Sink.faults c.make.new.out) (g.X.Exports.faults c.make.new.exports) (g.X.Exports.puts c.make.new.exports) in
    keeps_on c.args.state.now c.make.new.state c.make.new.state _ mid _ c.in-Ok.failing (Ok c.how.result)
    (keeps_of c.args.state.now c.make.new.state _ mid (Ok c.in-Ok.failing) made.same made.read_cause made.write_cause made.export_cause made.fits made.written)
    (line_kept c.make.new.state mid (g.O.Sink.faults c.tell_behind.new.out) tt c.how.result made.fits c.in-Ok-tell_behind.ensures.cause)

pub returns-in-Ok-clause-keeps : goal.returns-in-Ok-clause-keeps
returns-in-Ok-clause-keeps g c =
    let made = c.in-Ok.ensures in
    let mid = counts (g.F.Files.content c.make.new.files) (g.F.Files.faults c.make.new.files) (g.O.Sink.faults c.make.new.out) (g.X.Exports.faults c.make.new.exports) (g.X.Exports.puts c.make.new.exports) in
    keeps_on c.args.state.now c.make.new.state c.make.new.state _ mid _ c.in-Ok.failing (Err c.from.result)
    (keeps_of c.args.state.now c.make.new.state _ mid (Ok c.in-Ok.failing) made.same made.read_cause made.write_cause made.export_cause made.fits made.written)
    (line_cut c.make.new.state mid (g.O.Sink.faults c.tell_behind.new.out) c.in-Err-tell_behind.fail c.from.result made.fits c.from.ensures c.in-Err-tell_behind.ensures.cause)
