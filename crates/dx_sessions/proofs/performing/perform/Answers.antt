use Rattle.std.proofs.Common.{refl, subst}
use Rattle.dx_ast.specs.Plain.{plain_stmts}
use Rattle.dx_looking.specs.Setting.{fixed}
use Rattle.dx_performing.specs.Kept.{Kept}
use Rattle.dx_shown.specs.Made.{coursed}
use Rattle.dx_shown.specs.Session.{State, statements}
use Rattle.dx_telling.specs.declared.listings.Listings.{Listings}
use Rattle.dx_sessions.specs.Does.{PerformsSo, devices}
use Rattle.dx_sessions.specs.SessionView.{state_of}
use Rattle.dx_sessions.proofs.performing.perform.Goals as goal

pub returns-clause-performs : goal.returns-clause-performs
returns-clause-performs g c = λ map files.
    let x = fixed g.L.Library.answer map c.args.budget in
    let was = devices (g.L.Library.done c.args.lib.now) (g.F.Files.asked c.args.files.now) (g.O.Sink.written c.args.out.now) (g.X.Exports.puts c.args.exports.now) in
    let now = devices (g.L.Library.done c.statements.new.lib) (g.F.Files.asked c.statements.new.files) (g.O.Sink.written c.statements.new.out) (g.X.Exports.puts c.statements.new.exports) in
    subst (λ (st : State Kept). PerformsSo c.args.listings (statements (coursed x) st (plain_stmts c.args.statements)).shown was c.statements.result now) c.new-session.ensures.state
    (subst (λ (l : Listings). PerformsSo l (statements (coursed x) (state_of c.new-session.result) (plain_stmts c.args.statements)).shown was c.statements.result now) c.new-session.ensures.listings
    (c.statements.ensures.performs x refl files (c.new-session.ensures.sound x refl)))
