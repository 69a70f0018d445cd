use Rattle.std.proofs.Common.{Ok, Err, false, refl, sym, ap, subst}
use Rattle.std.proofs.lemmas.Result.{err_from_is_err_and}
use Rattle.dx_ast.specs.declared.statements.Stmt.TheVariants as code
use Rattle.dx_ast.specs.Syntax.{Stmt, Assigns, Says, Sequences}
use Rattle.dx_ast.specs.Lawful.{IsLawful}
use Rattle.dx_ast.specs.Plain.{plain_call, plain_expr, plain_stmt}
use Rattle.dx_sequencer.specs.Sequencer.{frames_of}
use Rattle.dx_shown.specs.Made.{coursed}
use Rattle.dx_shown.specs.Session.{State, setting, statement, with_dictionary, with_sequence}
use Rattle.dx_macros.specs.Dictionary.{Dictionary}
use Rattle.dx_engine.specs.Keeping.{IsSoundState}
use Rattle.dx_engine.specs.declared.state.State.{State as EngineState}
use Rattle.dx_making.specs.Ends.{reads_ahead}
use Rattle.dx_sessions.specs.Does.{IsCutAt, devices}
use Rattle.dx_sessions.specs.Places.{in_statement}
use Rattle.dx_sessions.specs.SessionView.{state_of}
use Rattle.std.specs.Prelude.{OnErr}
use Rattle.dx_performing.specs.Kept.{Kept}
use Rattle.dx_making.specs.declared.end.End.TheVariants.{ReadFault, WriteFault, ExportFault}
use Rattle.dx_sessions.specs.Keeping.{counts}
use Rattle.dx_sessions.specs.Left.{LeavesSequencer}
use Rattle.dx_sessions.proofs.Doing.{call_does, defining_cut, defining_stays, silently_done, statement_does}
use Rattle.dx_sessions.proofs.Keeping.{keeps_erred, keeps_same, keeps_still, line_cut, memory_cause, no_cause, written_cause}
use Rattle.dx_sessions.proofs.Staying.{on_err_with, stays_by_others, stays_same}
use Rattle.dx_sessions.proofs.Refusing.{set_cut_from}
use Rattle.dx_sessions.proofs.Statements.{assign_is, call_is, macro_is, setting_is, word_is, sequence_is}
use Rattle.dx_sessions.proofs.session.Session.statement.Goals as goal

pub returns-in-Assign : goal.returns-in-Assign
returns-in-Assign g c =
    let k = c.assign.ensures.keeps in
    record {
      same = k.same;
      listings = c.assign.ensures.listings;
      read_cause = k.read_cause;
      write_cause = k.write_cause;
      export_cause = k.export_cause;
      fits = k.fits;
      stays = c.assign.ensures.stays;
      moved = on_err_with c.assign.result (subst (λ (t : Stmt). LeavesSequencer t c.args.self.now.sequencer c.assign.new.self.sequencer) (sym (assign_is c.args.s c.in-Assign.a c.in-Assign.is)) c.assign.ensures.moved);
      written = k.written;
      does = λ x answers files sound.
          let was = devices (g.L.Library.done c.args.lib.now) (g.F.Files.asked c.args.files.now) (g.O.Sink.written c.args.out.now) (g.X.Exports.puts c.args.exports.now) in
          let now = devices (g.L.Library.done c.assign.new.lib) (g.F.Files.asked c.assign.new.files) (g.O.Sink.written c.assign.new.out) (g.X.Exports.puts c.assign.new.exports) in
          statement_does x c.args.self.now.listings (state_of c.args.self.now) (plain_stmt c.args.s) (Assigns c.in-Assign.a.targets (plain_expr c.in-Assign.a.value)) was now c.assign.result c.assign.new.self
          (assign_is c.args.s c.in-Assign.a c.in-Assign.is) (c.assign.ensures.does x answers files sound);
    }

pub returns-in-Call : goal.returns-in-Call
returns-in-Call g c =
    let k = keeps_erred c.args.self.now.state c.execute-ended.new.self.state _ _ c.execute-ended.result c.erred.result c.erred.ensures c.execute-ended.ensures.keeps in
    record {
      same = k.same;
      listings = c.execute-ended.ensures.others.listings;
      read_cause = k.read_cause;
      write_cause = k.write_cause;
      export_cause = k.export_cause;
      fits = k.fits;
      stays = on_err_with c.erred.result (stays_by_others c.args.self.now c.execute-ended.new.self c.execute-ended.ensures.others);
      moved = on_err_with c.erred.result (subst (λ (t : Stmt). LeavesSequencer t c.args.self.now.sequencer c.execute-ended.new.self.sequencer) (sym (call_is c.args.s c.in-Call.c c.in-Call.is)) c.execute-ended.ensures.others.sequencer);
      written = k.written;
      does = λ x answers files sound.
          let was = devices (g.L.Library.done c.args.lib.now) (g.F.Files.asked c.args.files.now) (g.O.Sink.written c.args.out.now) (g.X.Exports.puts c.args.exports.now) in
          let now = devices (g.L.Library.done c.execute-ended.new.lib) (g.F.Files.asked c.execute-ended.new.files) (g.O.Sink.written c.execute-ended.new.out) (g.X.Exports.puts c.execute-ended.new.exports) in
          call_does x c.args.self.now.listings (state_of c.args.self.now) (plain_stmt c.args.s) (plain_stmt (code.Call c.in-Call.c)) (plain_call c.in-Call.c) was now c.execute-ended.result c.erred.result c.execute-ended.new.self
          (call_is c.args.s c.in-Call.c c.in-Call.is) (call_is (code.Call c.in-Call.c) c.in-Call.c refl) c.erred.ensures (c.execute-ended.ensures.does x answers files sound);
    }

pub returns-in-Word : goal.returns-in-Word
returns-in-Word g c =
    let k = c.tell.ensures.keeps in
    record {
      same = k.same;
      listings = c.tell.ensures.listings;
      read_cause = k.read_cause;
      write_cause = k.write_cause;
      export_cause = k.export_cause;
      fits = k.fits;
      stays = on_err_with c.tell.result c.tell.ensures.stays;
      moved = subst (λ (t : Stmt). OnErr c.tell.result (LeavesSequencer t c.args.self.now.sequencer c.tell.new.self.sequencer)) (sym (word_is c.args.s c.in-Word.w c.in-Word.is)) c.tell.ensures.moved;
      written = k.written;
      does = λ x answers files sound.
          let was = devices (g.L.Library.done c.args.lib.now) (g.F.Files.asked c.args.files.now) (g.O.Sink.written c.args.out.now) (g.X.Exports.puts c.args.exports.now) in
          let now = devices (g.L.Library.done c.tell.new.lib) (g.F.Files.asked c.tell.new.files) (g.O.Sink.written c.tell.new.out) (g.X.Exports.puts c.tell.new.exports) in
          statement_does x c.args.self.now.listings (state_of c.args.self.now) (plain_stmt c.args.s) (Says c.in-Word.w) was now c.tell.result c.tell.new.self (word_is c.args.s c.in-Word.w c.in-Word.is)
          (c.tell.ensures.does x answers files sound);
    }

pub returns-in-SetFrame : goal.returns-in-SetFrame
returns-in-SetFrame g c =
    let was = counts (g.F.Files.content c.args.files.now) (g.F.Files.faults c.args.files.now) (g.O.Sink.faults c.args.out.now) (g.X.Exports.faults c.args.exports.now) (g.X.Exports.puts c.args.exports.now) in
    let now = counts (g.F.Files.content c.args.files.now) (g.F.Files.faults c.args.files.now) (g.O.Sink.faults c.set.new.out) (g.X.Exports.faults c.args.exports.now) (g.X.Exports.puts c.args.exports.now) in
    let k = keeps_same c.args.self.now.state c.args.self.now.state c.set.new.self.state was now (Err c.from.result) c.in-Err.ensures.sets.1
    (line_cut c.args.self.now.state was (g.O.Sink.faults c.set.new.out) c.in-Err.fail c.from.result c.requires.fits c.from.ensures c.in-Err.ensures.cause) in
    record {
      same = k.same;
      listings = c.in-Err.ensures.sets.2;
      read_cause = k.read_cause;
      write_cause = k.write_cause;
      export_cause = k.export_cause;
      fits = k.fits;
      stays = stays_same (state_of c.args.self.now) (state_of c.set.new.self) c.in-Err.ensures.sets.3;
      moved = subst (λ (t : Stmt). LeavesSequencer t c.args.self.now.sequencer c.set.new.self.sequencer) (sym (setting_is c.args.s c.in-SetFrame.v c.in-SetFrame.e c.in-SetFrame.is)) (ap (λ (st : State Kept). st.sequencer) c.in-Err.ensures.sets.3);
      written = k.written;
      does = λ x answers files sound.
          let old = c.args.self.now in
          let was = devices (g.L.Library.done c.args.lib.now) (g.F.Files.asked c.args.files.now) (g.O.Sink.written c.args.out.now) (g.X.Exports.puts c.args.exports.now) in
          let now = devices (g.L.Library.done c.args.lib.now) (g.F.Files.asked c.args.files.now) (g.O.Sink.written c.set.new.out) (g.X.Exports.puts c.args.exports.now) in
          subst (λ (s : Stmt). IsCutAt (reads_ahead c.from.result) x old.listings (in_statement (coursed x) (state_of old) s) (statement (coursed x) (state_of old) s).shown was c.set.new.self now) (sym (setting_is c.args.s c.in-SetFrame.v c.in-SetFrame.e c.in-SetFrame.is))
          (set_cut_from (reads_ahead c.from.result) x c.in-SetFrame.v (setting (frames_of old.sequencer) (plain_expr c.in-SetFrame.e)) old c.set.new.self was now c.in-Err.fail c.in-Err.ensures.sets sound (record { told = refl; puts = refl }));
    }

pub returns : goal.returns
returns g c =
    let was = counts (g.F.Files.content c.args.files.now) (g.F.Files.faults c.args.files.now) (g.O.Sink.faults c.args.out.now) (g.X.Exports.faults c.args.exports.now) (g.X.Exports.puts c.args.exports.now) in
    let k = keeps_same c.args.self.now.state c.args.self.now.state c.set_sequence.new.self.state was was (Ok false) c.set_sequence.ensures.state
    (keeps_still c.args.self.now.state was (Ok false) tt c.requires.fits) in
    record {
      same = k.same;
      listings = c.set_sequence.ensures.listings;
      read_cause = k.read_cause;
      write_cause = k.write_cause;
      export_cause = k.export_cause;
      fits = k.fits;
      stays = tt;
      moved = tt;
      written = k.written;
      does = λ x answers files sound.
          let st = state_of c.args.self.now in
          let was = devices (g.L.Library.done c.args.lib.now) (g.F.Files.asked c.args.files.now) (g.O.Sink.written c.args.out.now) (g.X.Exports.puts c.args.exports.now) in
          let call = Sequences (plain_call c.in-Sequence.c) in
          statement_does x c.args.self.now.listings st (plain_stmt c.args.s) call was was (Ok false) c.set_sequence.new.self (sequence_is c.args.s c.in-Sequence.c c.in-Sequence.is)
          (silently_done x c.args.self.now.listings (with_sequence call st) c.set_sequence.new.self was c.set_sequence.ensures.sequence (subst (λ (s : EngineState). IsSoundState x s) (sym c.set_sequence.ensures.state) sound));
    }

pub returns-in-Macro-clause-read_cause : goal.returns-in-Macro-clause-read_cause
returns-in-Macro-clause-read_cause g c = no_cause ReadFault (g.F.Files.faults c.args.files.now) false

pub returns-in-Macro-clause-write_cause : goal.returns-in-Macro-clause-write_cause
returns-in-Macro-clause-write_cause g c = no_cause WriteFault (g.O.Sink.faults c.args.out.now) false

pub returns-in-Macro-clause-export_cause : goal.returns-in-Macro-clause-export_cause
returns-in-Macro-clause-export_cause g c = no_cause ExportFault (g.X.Exports.faults c.args.exports.now) false

pub returns-in-Include-clause-read_cause : goal.returns-in-Include-clause-read_cause
returns-in-Include-clause-read_cause g c = no_cause ReadFault (g.F.Files.faults c.args.files.now) false

pub returns-in-Include-clause-write_cause : goal.returns-in-Include-clause-write_cause
returns-in-Include-clause-write_cause g c = no_cause WriteFault (g.O.Sink.faults c.args.out.now) false

pub returns-in-Include-clause-export_cause : goal.returns-in-Include-clause-export_cause
returns-in-Include-clause-export_cause g c = no_cause ExportFault (g.X.Exports.faults c.args.exports.now) false

pub returns-in-Ok-clause-read_cause : goal.returns-in-Ok-clause-read_cause
returns-in-Ok-clause-read_cause g c = no_cause ReadFault (g.F.Files.faults c.args.files.now) c.in-Ok.refused

pub returns-in-Ok-clause-write_cause : goal.returns-in-Ok-clause-write_cause
returns-in-Ok-clause-write_cause g c = written_cause (g.O.Sink.faults c.args.out.now) (g.O.Sink.faults c.set.new.out) c.in-Ok.refused c.in-Ok.refused c.in-Ok.ensures.cause

pub returns-in-Ok-clause-export_cause : goal.returns-in-Ok-clause-export_cause
returns-in-Ok-clause-export_cause g c = no_cause ExportFault (g.X.Exports.faults c.args.exports.now) c.in-Ok.refused

pub returns-in_err-define-in-Macro-clause-read_cause : goal.returns-in_err-define-in-Macro-clause-read_cause
returns-in_err-define-in-Macro-clause-read_cause g c =
    let p = err_from_is_err_and c.from_residual.result c.from_residual.ensures.1 in
    rw (p.1, p.2) (memory_cause ReadFault (g.F.Files.faults c.args.files.now) tt)

pub returns-in_err-define-in-Macro-clause-write_cause : goal.returns-in_err-define-in-Macro-clause-write_cause
returns-in_err-define-in-Macro-clause-write_cause g c =
    let p = err_from_is_err_and c.from_residual.result c.from_residual.ensures.1 in
    rw (p.1, p.2) (memory_cause WriteFault (g.O.Sink.faults c.args.out.now) tt)

pub returns-in_err-define-in-Macro-clause-export_cause : goal.returns-in_err-define-in-Macro-clause-export_cause
returns-in_err-define-in-Macro-clause-export_cause g c =
    let p = err_from_is_err_and c.from_residual.result c.from_residual.ensures.1 in
    rw (p.1, p.2) (memory_cause ExportFault (g.X.Exports.faults c.args.exports.now) tt)

pub returns-in_err-define-in-Macro-clause-does : goal.returns-in_err-define-in-Macro-clause-does
returns-in_err-define-in-Macro-clause-does g c = λ x answers files sound.
    let p = err_from_is_err_and c.from_residual.result c.from_residual.ensures.1 in
    let st = state_of c.args.self.now in
    let was = devices (g.L.Library.done c.args.lib.now) (g.F.Files.asked c.args.files.now) (g.O.Sink.written c.args.out.now) (g.X.Exports.puts c.args.exports.now) in
    rw p.1
    (defining_cut _ x c.args.self.now.listings was st _ _ (macro_is c.args.s c.in-Macro.m c.in-Macro.is) (ap (λ (d : Dictionary). with_dictionary d st) c.in_err-define-in-Macro.ensures.err) sound)

pub returns-in_err-define-in-Macro-clause-moved : goal.returns-in_err-define-in-Macro-clause-moved
returns-in_err-define-in-Macro-clause-moved g c = on_err_with c.from_residual.result (defining_stays _ c.args.self.now.sequencer (macro_is c.args.s c.in-Macro.m c.in-Macro.is))

pub set_sequence-requires : goal.set_sequence-requires
set_sequence-requires g c = subst IsLawful (sequence_is c.args.s c.in-Sequence.c c.in-Sequence.is) c.requires.lawful
