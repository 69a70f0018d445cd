use Rattle.std.proofs.Common.{◌≡◌, ◌∙◌, ◌||◌, ℕ, Ok, Err, false, add-one, arith, refl, ap, subst}
use Rattle.std.proofs.lemmas.Result.{err_from_is_err_and}
use Rattle.dx_shown.specs.Made.{coursed}
use Rattle.dx_shown.specs.Session.{stepped, stepped_often}
use Rattle.dx_telling.specs.declared.listings.Listings.{Listings}
use Rattle.dx_making.specs.Ends.{reads_ahead}
use Rattle.dx_sessions.specs.Does.{IsDone, IsCutAt, devices}
use Rattle.dx_sessions.specs.Places.{here, moved}
use Rattle.dx_sessions.specs.SessionView.{state_of}
use Rattle.dx_sequencer.specs.Sequencer as seq
use Rattle.dx_sessions.proofs.Doing.{silently_done}
use Rattle.dx_sessions.proofs.Keeping.{keeps_on, keeps_still, keeps_with}
use Rattle.dx_sessions.proofs.Staying.{stays_itself, stays_on}
use Rattle.dx_sessions.proofs.Stepping.{step_more, step_cut}
use Rattle.dx_sessions.proofs.session.Session.step_often.Goals as goal

pub returns-in_err-erred-clause-does : goal.returns-in_err-erred-clause-does
returns-in_err-erred-clause-does g c = λ x answers files sound.
    let was = devices (g.L.Library.done c.args.lib.now) (g.F.Files.asked c.args.files.now) (g.O.Sink.written c.args.out.now) (g.X.Exports.puts c.args.exports.now) in
    let mid = devices (g.L.Library.done c.loop.lib) (g.F.Files.asked c.loop.files) (g.O.Sink.written c.loop.out) (g.X.Exports.puts c.loop.exports) in
    let now = devices (g.L.Library.done c.step.new.lib) (g.F.Files.asked c.step.new.files) (g.O.Sink.written c.step.new.out) (g.X.Exports.puts c.step.new.exports) in
    let before = c.loop.invariant.done x answers files sound in
    let p = err_from_is_err_and c.from_residual.result c.from_residual.ensures.1 in
    rw (p.1, p.2)
    (step_cut (reads_ahead c.in_err-erred.field-0.0) x c.args.self.now.listings c.loop.counter c.args.steps (state_of c.args.self.now) c.loop.self c.step.new.self was mid now c.loop.erred c.loop-test.true before
    (subst (λ (l : Listings). IsCutAt (reads_ahead c.in_err-erred.field-0.0) x l (here (moved (state_of c.loop.self))) (stepped (coursed x) (state_of c.loop.self)).shown mid c.step.new.self now) c.loop.invariant.listings (c.in_err-erred.ensures.does x answers (c.loop.invariant.keeps.same ∙ files) before.sound)))

pub returns-in_err-erred-clause-stays : goal.returns-in_err-erred-clause-stays
returns-in_err-erred-clause-stays g c = stays_on (state_of c.args.self.now) (state_of c.loop.self) (state_of c.step.new.self) c.loop.invariant.stays c.step.ensures.stays

pub returns-in_err-erred-clause-moved : goal.returns-in_err-erred-clause-moved
returns-in_err-erred-clause-moved g c =
    let p = err_from_is_err_and c.from_residual.result c.from_residual.ensures.1 in
    rw p.1 (c.loop.counter, c.loop-test.true, c.step.ensures.moved ∙ ap (λ (s : seq.State). seq.after_step s) c.loop.invariant.moved)

pub returns-in_err-erred-clause-keeps : goal.returns-in_err-erred-clause-keeps
returns-in_err-erred-clause-keeps g c =
    let p = err_from_is_err_and c.from_residual.result c.from_residual.ensures.1 in
    rw (p.1, p.2) (keeps_on c.args.self.now.state c.loop.self.state c.step.new.self.state _ _ _ c.loop.erred (Err c.in_err-erred.field-0.0) c.loop.invariant.keeps c.in_err-erred.ensures.keeps)

pub returns-clause-does : goal.returns-clause-does
returns-clause-does g c = λ x answers files sound.
    let was = devices (g.L.Library.done c.args.lib.now) (g.F.Files.asked c.args.files.now) (g.O.Sink.written c.args.out.now) (g.X.Exports.puts c.args.exports.now) in
    let now = devices (g.L.Library.done c.loop.lib) (g.F.Files.asked c.loop.files) (g.O.Sink.written c.loop.out) (g.X.Exports.puts c.loop.exports) in
    let all : c.loop.counter ≡ c.args.steps = omega (arith, c.loop-test.false, c.loop.invariant.within) in
    subst (λ (n : ℕ). IsDone x c.args.self.now.listings (stepped_often (coursed x) n (state_of c.args.self.now)) was c.loop.erred c.loop.self now) all (c.loop.invariant.done x answers files sound)

pub loop-init : goal.loop-init
loop-init g c =
    record {
      within = omega arith;
      stays = stays_itself (state_of c.args.self.now);
      moved = refl;
      listings = refl;
      keeps = keeps_still c.args.self.now.state _ (Ok false) tt c.requires.fits;
      done = λ x answers files sound. silently_done x c.args.self.now.listings (state_of c.args.self.now) c.args.self.now _ refl sound;
    }

pub loop-preserved : goal.loop-preserved
loop-preserved g c =
    let step = c.in_ok-erred.ensures in
    record {
      within = omega arith;
      stays = stays_on (state_of c.args.self.now) (state_of c.loop.self) (state_of c.step.new.self) c.loop.invariant.stays c.step.ensures.stays;
      moved = rw add-one (c.step.ensures.moved ∙ ap (λ (s : seq.State). seq.after_step s) c.loop.invariant.moved);
      listings = step.listings ∙ c.loop.invariant.listings;
      keeps = keeps_with (c.loop.erred || c.in_ok-erred.field-0)
          (keeps_on c.args.self.now.state c.loop.self.state c.step.new.self.state _ _ _ c.loop.erred (Ok c.in_ok-erred.field-0) c.loop.invariant.keeps step.keeps);
      done = λ x answers files sound.
          let was = devices (g.L.Library.done c.args.lib.now) (g.F.Files.asked c.args.files.now) (g.O.Sink.written c.args.out.now) (g.X.Exports.puts c.args.exports.now) in
          let mid = devices (g.L.Library.done c.loop.lib) (g.F.Files.asked c.loop.files) (g.O.Sink.written c.loop.out) (g.X.Exports.puts c.loop.exports) in
          let now = devices (g.L.Library.done c.step.new.lib) (g.F.Files.asked c.step.new.files) (g.O.Sink.written c.step.new.out) (g.X.Exports.puts c.step.new.exports) in
          let before = c.loop.invariant.done x answers files sound in
          rw add-one
          (step_more x c.args.self.now.listings c.loop.counter (state_of c.args.self.now) c.loop.self c.step.new.self was mid now c.loop.erred c.in_ok-erred.field-0 before
          (subst (λ (l : Listings). IsDone x l (stepped (coursed x) (state_of c.loop.self)) mid c.in_ok-erred.field-0 c.step.new.self now) c.loop.invariant.listings (step.does x answers (c.loop.invariant.keeps.same ∙ files) before.sound)));
    }
