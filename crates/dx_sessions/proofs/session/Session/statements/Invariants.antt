use Rattle.std.proofs.Common.{◌≡◌, Ok, length}
use Rattle.std.specs.Vec.Iter.{into_iter_items, into_iter_len}
use Rattle.dx_ast.specs.Lawful.{AreLawful}
use Rattle.dx_ast.specs.Plain.{plain_stmts}
use Rattle.dx_shown.specs.Made.{coursed}
use Rattle.dx_shown.specs.Session.{statements}
use Rattle.dx_sessions.specs.Does.{OverSound, devices}
use Rattle.dx_sessions.specs.Keeping.{Keeps, counts}
use Rattle.dx_sessions.specs.SessionView.{state_of}
use Rattle.dx_sessions.proofs.Sessions.{SoFar}
use Rattle.dx_sessions.proofs.session.Session.statements.Given as goal

abbrev pub invariant-loop-statement : goal.invariant-loop-statement
invariant-loop-statement g l = record {
  can : (goal.iterator-loop-statement g).can_next l.statement-iterator;
  finite : (goal.iterator-loop-statement g).is_finite l.statement-iterator;
  len : into_iter_len l.statement-iterator ≡ length (into_iter_items l.statement-iterator);
  lawful : AreLawful (plain_stmts (into_iter_items l.statement-iterator));
  listings : l.self.listings ≡ l.initial.self.listings;
  keeps : Keeps l.initial.self.state l.self.state
      (counts (g.F.Files.content l.initial.files) (g.F.Files.faults l.initial.files) (g.O.Sink.faults l.initial.out) (g.X.Exports.faults l.initial.exports) (g.X.Exports.puts l.initial.exports))
      (counts (g.F.Files.content l.files) (g.F.Files.faults l.files) (g.O.Sink.faults l.out) (g.X.Exports.faults l.exports) (g.X.Exports.puts l.exports)) (Ok l.erred);
  so_far : OverSound g.L.Library.answer (g.F.Files.content l.initial.files) l.initial.self.state (λ x.
      SoFar x l.initial.self.listings (statements (coursed x) (state_of l.initial.self) (plain_stmts l.fn.statements))
      (statements (coursed x) (state_of l.self) (plain_stmts (into_iter_items l.statement-iterator)))
      (devices (g.L.Library.done l.initial.lib) (g.F.Files.asked l.initial.files) (g.O.Sink.written l.initial.out) (g.X.Exports.puts l.initial.exports)) l.erred l.self
      (devices (g.L.Library.done l.lib) (g.F.Files.asked l.files) (g.O.Sink.written l.out) (g.X.Exports.puts l.exports)));
}
