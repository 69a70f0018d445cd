use Rattle.std.proofs.Common.{◌<◌, Err, refl, sym, ap, subst}
use Rattle.std.proofs.lemmas.Result.{err_from_is_err_and}
use Rattle.dx_ast.specs.Plain.{plain_expr, plain_stmt}
use Rattle.dx_ast.specs.declared.statements.Stmt.TheVariants as code
use Rattle.dx_macros.specs.declared.dictionary.Dictionary.{Dictionary}
use Rattle.dx_macros.specs.DictionaryView.{dictionary_of, room_of}
use Rattle.dx_making.specs.declared.end.End.TheVariants.{Memory}
use Rattle.dx_sessions.specs.Does.{devices}
use Rattle.dx_sessions.specs.SessionView.{state_of}
use Rattle.dx_sessions.proofs.Joining.{assign_does, assign_stays, same_definitions}
use Rattle.dx_sessions.proofs.Keeping.{keeps_erred, keeps_still}
use Rattle.dx_sessions.proofs.Statements.{assign_is}
use Rattle.dx_sessions.proofs.Staying.{stays_by_others, stays_on}
use Rattle.dx_sessions.proofs.session.Session.assign_call.Goals as goal

pub returns-in_err-reserve-clause-does : goal.returns-in_err-reserve-clause-does
returns-in_err-reserve-clause-does g c = λ x answers files sound.
    let p = err_from_is_err_and c.from_residual.result c.from_residual.ensures.1 in
    let was = devices (g.L.Library.done c.args.lib.now) (g.F.Files.asked c.args.files.now) (g.O.Sink.written c.args.out.now) (g.X.Exports.puts c.args.exports.now) in
    rw p.1 (same_definitions _ x c.args.self.now.listings _ was c.args.self.now c.reserve.new.self _ c.reserve.ensures.same sound)

pub returns-in_err-reserve-clause-keeps : goal.returns-in_err-reserve-clause-keeps
returns-in_err-reserve-clause-keeps g c =
    let p = err_from_is_err_and c.from_residual.result c.from_residual.ensures.1 in
    rw (p.1, p.2) (keeps_still c.args.self.now.state _ (Err Memory) tt c.requires.fits)

-- room was made, and the execution leaves it
pub join-requires-clause-room : goal.join-requires-clause-room
join-requires-clause-room g c = subst (λ (d : Dictionary). 0 < room_of d) (sym c.execute-ended.ensures.others.dictionary) c.in_ok-reserve.ensures.room

pub returns-clause-keeps : goal.returns-clause-keeps
returns-clause-keeps g c = keeps_erred c.args.self.now.state c.execute-ended.new.self.state _ _ c.execute-ended.result c.join.result c.join.ensures.erred c.execute-ended.ensures.keeps

pub returns-clause-stays : goal.returns-clause-stays
returns-clause-stays g c =
    assign_stays (state_of c.args.self.now) (state_of c.execute-ended.new.self) (dictionary_of c.join.new.dictionary) (plain_stmt (code.Assign c.args.a)) c.execute-ended.result c.join.result c.join.ensures.erred c.join.ensures.joins
    (stays_on (state_of c.args.self.now) _ (state_of c.execute-ended.new.self) (record { dictionary = c.in_ok-reserve.ensures.same; sequence = refl }) (stays_by_others _ c.execute-ended.new.self c.execute-ended.ensures.others))

pub returns-clause-does : goal.returns-clause-does
returns-clause-does g c = λ x answers files sound.
    let was = devices (g.L.Library.done c.args.lib.now) (g.F.Files.asked c.args.files.now) (g.O.Sink.written c.args.out.now) (g.X.Exports.puts c.args.exports.now) in
    let now = devices (g.L.Library.done c.execute-ended.new.lib) (g.F.Files.asked c.execute-ended.new.files) (g.O.Sink.written c.execute-ended.new.out) (g.X.Exports.puts c.execute-ended.new.exports) in
    assign_does x c.args.self.now.listings (state_of c.args.self.now) (dictionary_of c.reserve.new.self) c.args.a.targets (plain_expr c.args.a.value) (plain_stmt (code.Assign c.args.a)) was now
    c.execute-ended.result c.join.result c.execute-ended.new.self c.join.new.dictionary _ (assign_is (code.Assign c.args.a) c.args.a refl) c.in_ok-reserve.ensures.same c.join.ensures.erred
    (ap (λ (d : Dictionary). dictionary_of d) c.execute-ended.ensures.others.dictionary) c.execute-ended.ensures.faulty c.join.ensures.joins (c.execute-ended.ensures.does x answers files sound)
