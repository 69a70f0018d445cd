use Rattle.std.proofs.Common.{Ok, false, refl, sym, subst}
use Rattle.dx_shown.specs.Made.{coursed}
use Rattle.dx_shown.specs.Session.{told, with_sequencer}
use Rattle.dx_sessions.specs.Does.{DoesSo, devices}
use Rattle.dx_sessions.specs.Places.{in_word}
use Rattle.dx_sessions.specs.SessionView.{state_of}
use Rattle.dx_sessions.proofs.Doing.{silently_by}
use Rattle.dx_sessions.proofs.Keeping.{keeps_still}
use Rattle.dx_sessions.proofs.Switching.{switched}
use Rattle.dx_sessions.proofs.session.Session.tell.Goals as goal

pub returns-in-Step-clause-does : goal.returns-in-Step-clause-does
returns-in-Step-clause-does g c = λ x answers files sound.
    let st = state_of c.args.self.now in
    let was = devices (g.L.Library.done c.args.lib.now) (g.F.Files.asked c.args.files.now) (g.O.Sink.written c.args.out.now) (g.X.Exports.puts c.args.exports.now) in
    let now = devices (g.L.Library.done c.step.new.lib) (g.F.Files.asked c.step.new.files) (g.O.Sink.written c.step.new.out) (g.X.Exports.puts c.step.new.exports) in
    subst (λ w. DoesSo x c.args.self.now.listings (in_word (coursed x) w st) (told (coursed x) w st) was c.step.result c.step.new.self now) (sym c.in-Step.is)
    (c.step.ensures.does x answers files sound)

pub returns-in_default : goal.returns-in_default
returns-in_default g c = record {
  keeps = keeps_still c.args.self.now.state _ (Ok false) tt c.requires.fits;
  listings = refl;
  stays = record { dictionary = refl; sequence = refl };
  moved = tt;
  does = λ x answers files sound.
      let st = state_of c.args.self.now in
      let was = devices (g.L.Library.done c.args.lib.now) (g.F.Files.asked c.args.files.now) (g.O.Sink.written c.args.out.now) (g.X.Exports.puts c.args.exports.now) in
      silently_by x c.args.self.now.listings (told (coursed x) c.args.w st) (with_sequencer c.switch.new.sequencer st) _ was
      (switched c.args.w c.in_default.not-Play c.in_default.not-Step c.args.self.now.sequencer c.switch.new.sequencer c.switch.ensures (coursed x) st) refl sound;
}
