use Rattle.std.proofs.Common.{rules, refl, false, ◌≡◌, ◌∷◌, ◌||◌, Ok, Err, List, length, sym, ap, subst, ◌∙◌, arith}
use Rattle.std.proofs.lemmas.Result.{err_from_is_err_and}
use Rattle.std.specs.Vec.Iter.{into_iter_items}
use Rattle.dx_ast.specs.declared.statements.Stmt.{Stmt}
use Rattle.dx_ast.specs.Plain.{plain_stmt, plain_stmts}
use Rattle.dx_performing.specs.Kept.{Kept}
use Rattle.dx_shown.specs.Made.{Coursed, coursed}
use Rattle.dx_shown.specs.Session.{Done, State, statement, statements}
use Rattle.dx_telling.specs.declared.listings.Listings.{Listings}
use Rattle.dx_sessions.specs.Does.{IsCutShort, IsDone, devices}
use Rattle.dx_sessions.specs.SessionView.{state_of}
use Rattle.dx_making.specs.Ends.{reads_ahead}
use Rattle.dx_sessions.proofs.Keeping.{keeps_of, keeps_on, keeps_still, keeps_with}
use Rattle.dx_sessions.proofs.Sessions.{SoFar, begins, goes_on, is_cut, is_done, lawful_tail, next_statement, no_statement, nothing_left}
use Rattle.dx_sessions.proofs.session.Session.statements.Goals as goal

pub loop-statement-init : goal.loop-statement-init
loop-statement-init g c =
    let items : into_iter_items c.into_iter-statement-iterator.result ≡ c.args.statements = search rules in
    record {
      can = tt;
      finite = tt;
      len = search rules;
      lawful = search rules;
      listings = refl;
      keeps = keeps_still c.args.self.now.state _ (Ok false) tt c.requires.fits;
      so_far = λ x answers files sound.
          let was = devices (g.L.Library.done c.args.lib.now) (g.F.Files.asked c.args.files.now) (g.O.Sink.written c.args.out.now) (g.X.Exports.puts c.args.exports.now) in
          let whole = statements (coursed x) (state_of c.args.self.now) (plain_stmts c.args.statements) in
          subst (λ (rest : Done Kept Coursed). SoFar x c.args.self.now.listings whole rest was false c.args.self.now was)
          (ap (λ (ss : List Stmt). statements (coursed x) (state_of c.args.self.now) (plain_stmts ss)) (sym items))
          (begins x c.args.self.now.listings whole was c.args.self.now sound);
    }

pub loop-statement-preserved : goal.loop-statement-preserved
loop-statement-preserved g c =
    let at = c.loop-statement in
    let rest = into_iter_items c.next.new.self in
    let steps : into_iter_items at.statement-iterator ≡ c.in-Some.statement ∷ rest = c.in-Some.ensures.steps.0 in
    let done = c.in_ok-erred.ensures in
    record {
      can = tt;
      finite = tt;
      len = (let was = at.invariant.len in let gone = c.in-Some.ensures.steps.1 in let short = ap length steps in omega arith);
      lawful = lawful_tail (into_iter_items at.statement-iterator) c.in-Some.statement rest steps at.invariant.lawful;
      listings = done.listings ∙ at.invariant.listings;
      keeps = keeps_with (at.erred || c.in_ok-erred.field-0)
          (keeps_on c.args.self.now.state at.self.state c.statement.new.self.state _ _ _ at.erred (Ok c.in_ok-erred.field-0) at.invariant.keeps
          (keeps_of at.self.state c.statement.new.self.state _ _ (Ok c.in_ok-erred.field-0) done.same done.read_cause done.write_cause done.export_cause done.fits done.written));
      so_far = λ x answers files sound.
          let was = devices (g.L.Library.done c.args.lib.now) (g.F.Files.asked c.args.files.now) (g.O.Sink.written c.args.out.now) (g.X.Exports.puts c.args.exports.now) in
          let mid = devices (g.L.Library.done at.lib) (g.F.Files.asked at.files) (g.O.Sink.written at.out) (g.X.Exports.puts at.exports) in
          let now = devices (g.L.Library.done c.statement.new.lib) (g.F.Files.asked c.statement.new.files) (g.O.Sink.written c.statement.new.out) (g.X.Exports.puts c.statement.new.exports) in
          let so_far = at.invariant.so_far x answers files sound in
          let one = statement (coursed x) (state_of at.self) (plain_stmt c.in-Some.statement) in
          goes_on x c.args.self.now.listings (statements (coursed x) (state_of c.args.self.now) (plain_stmts c.args.statements)) (statements (coursed x) (state_of at.self) (plain_stmts (into_iter_items at.statement-iterator))) one
          (λ (next : State Kept). statements (coursed x) next (plain_stmts rest)) at.erred c.in_ok-erred.field-0 at.self c.statement.new.self was mid now
          (next_statement (coursed x) (state_of at.self) (into_iter_items at.statement-iterator) c.in-Some.statement rest steps)
          (subst (λ (l : Listings). IsDone x l one mid c.in_ok-erred.field-0 c.statement.new.self now) at.invariant.listings (done.does x answers (at.invariant.keeps.same ∙ files) so_far.sound))
          so_far;
    }

pub returns-in_err-erred-clause-keeps : goal.returns-in_err-erred-clause-keeps
returns-in_err-erred-clause-keeps g c =
    let at = c.loop-statement in
    let end = c.in_err-erred.field-0.0 in
    let done = c.in_err-erred.ensures in
    let p = err_from_is_err_and c.from_residual.result c.from_residual.ensures.1 in
    rw (p.1, p.2)
    (keeps_on c.args.self.now.state at.self.state c.statement.new.self.state _ _ _ at.erred (Err end) at.invariant.keeps
    (keeps_of at.self.state c.statement.new.self.state _ _ (Err end) done.same done.read_cause done.write_cause done.export_cause done.fits done.written))

pub returns-in_err-erred-clause-performs : goal.returns-in_err-erred-clause-performs
returns-in_err-erred-clause-performs g c = λ x answers files sound.
    let at = c.loop-statement in
    let rest = into_iter_items c.next.new.self in
    let steps : into_iter_items at.statement-iterator ≡ c.in-Some.statement ∷ rest = c.in-Some.ensures.steps.0 in
    let was = devices (g.L.Library.done c.args.lib.now) (g.F.Files.asked c.args.files.now) (g.O.Sink.written c.args.out.now) (g.X.Exports.puts c.args.exports.now) in
    let mid = devices (g.L.Library.done at.lib) (g.F.Files.asked at.files) (g.O.Sink.written at.out) (g.X.Exports.puts at.exports) in
    let now = devices (g.L.Library.done c.statement.new.lib) (g.F.Files.asked c.statement.new.files) (g.O.Sink.written c.statement.new.out) (g.X.Exports.puts c.statement.new.exports) in
    let so_far = at.invariant.so_far x answers files sound in
    let one = statement (coursed x) (state_of at.self) (plain_stmt c.in-Some.statement) in
    let p = err_from_is_err_and c.from_residual.result c.from_residual.ensures.1 in
    rw (p.1, p.2)
    (is_cut (reads_ahead c.in_err-erred.field-0.0) x c.args.self.now.listings (statements (coursed x) (state_of c.args.self.now) (plain_stmts c.args.statements)) (statements (coursed x) (state_of at.self) (plain_stmts (into_iter_items at.statement-iterator))) one
    (λ (next : State Kept). statements (coursed x) next (plain_stmts rest)) at.erred at.self was mid now
    (next_statement (coursed x) (state_of at.self) (into_iter_items at.statement-iterator) c.in-Some.statement rest steps)
    (subst (λ (l : Listings). IsCutShort (reads_ahead c.in_err-erred.field-0.0) l one.shown mid now) at.invariant.listings (c.in_err-erred.ensures.does x answers (at.invariant.keeps.same ∙ files) so_far.sound).short)
    so_far)

pub returns-clause-performs : goal.returns-clause-performs
returns-clause-performs g c = λ x answers files sound.
    let at = c.loop-statement in
    let was = devices (g.L.Library.done c.args.lib.now) (g.F.Files.asked c.args.files.now) (g.O.Sink.written c.args.out.now) (g.X.Exports.puts c.args.exports.now) in
    let mid = devices (g.L.Library.done at.lib) (g.F.Files.asked at.files) (g.O.Sink.written at.out) (g.X.Exports.puts at.exports) in
    let none = nothing_left (into_iter_items at.statement-iterator) (sym at.invariant.len ∙ c.in-None.ensures.steps.0) in
    is_done x c.args.self.now.listings (statements (coursed x) (state_of c.args.self.now) (plain_stmts c.args.statements)) (statements (coursed x) (state_of at.self) (plain_stmts (into_iter_items at.statement-iterator))) at.erred at.self was mid (state_of at.self)
    (no_statement (coursed x) (state_of at.self) (into_iter_items at.statement-iterator) none) (at.invariant.so_far x answers files sound)
