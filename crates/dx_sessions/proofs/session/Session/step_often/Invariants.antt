use Rattle.std.proofs.Common.{◌≡◌, ◌≤◌, Ok}
use Rattle.dx_shown.specs.Made.{coursed}
use Rattle.dx_shown.specs.Session.{stepped_often}
use Rattle.dx_sessions.specs.Does.{IsDone, OverSound, devices}
use Rattle.dx_sessions.specs.Keeping.{Keeps, counts}
use Rattle.dx_sessions.specs.Left.{Stays, after_steps}
use Rattle.dx_sessions.specs.SessionView.{state_of}
use Rattle.dx_sessions.proofs.session.Session.step_often.Given as goal

abbrev pub invariant-loop : goal.invariant-loop
invariant-loop g l = record {
  within : l.counter ≤ l.steps;
  stays : Stays (state_of l.initial.self) (state_of l.self);
  moved : l.self.sequencer ≡ after_steps l.counter l.initial.self.sequencer;
  listings : l.self.listings ≡ l.initial.self.listings;
  keeps : Keeps l.initial.self.state l.self.state
      (counts (g.F.Files.content l.initial.files) (g.F.Files.faults l.initial.files) (g.O.Sink.faults l.initial.out) (g.X.Exports.faults l.initial.exports) (g.X.Exports.puts l.initial.exports))
      (counts (g.F.Files.content l.files) (g.F.Files.faults l.files) (g.O.Sink.faults l.out) (g.X.Exports.faults l.exports) (g.X.Exports.puts l.exports)) (Ok l.erred);
  done : OverSound g.L.Library.answer (g.F.Files.content l.initial.files) l.initial.self.state (λ x.
      IsDone x l.initial.self.listings (stepped_often (coursed x) l.counter (state_of l.initial.self))
      (devices (g.L.Library.done l.initial.lib) (g.F.Files.asked l.initial.files) (g.O.Sink.written l.initial.out) (g.X.Exports.puts l.initial.exports)) l.erred l.self
      (devices (g.L.Library.done l.lib) (g.F.Files.asked l.files) (g.O.Sink.written l.out) (g.X.Exports.puts l.exports)));
}
