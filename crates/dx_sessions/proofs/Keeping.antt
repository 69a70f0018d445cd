-- What each call leaves in order, over calls one behind the other.
use Rattle.std.proofs.Common.{◌≡◌, ℕ, List, [], ◌∷◌, ◌++◌, Option, Bool, Result, Ok, Err, refl, sym, ap, subst, ◌∙◌, arith}
use Rattle.dx_io.specs.declared.fails.SinkFail.{SinkFail}
use Rattle.dx_io.specs.declared.fails.SinkFail.TheVariants as sink
use Rattle.dx_io.specs.Devices.{Cause, WriteCause}
use Rattle.dx_io.proofs.Growing.{grows_by_nothing, grows_on}
use Rattle.dx_tags.specs.Files.{FileMap, file_put}
use Rattle.dx_performing.specs.Execution.{Export, after_exports}
use Rattle.dx_engine.specs.Ending.{HasPut}
use Rattle.dx_engine.specs.Keeping.{StateFits}
use Rattle.dx_engine.specs.declared.state.State.{State}
use Rattle.dx_making.specs.Ends.{write_end}
use Rattle.dx_making.specs.declared.end.End.{End}
use Rattle.dx_making.specs.declared.end.End.TheVariants.{ReadFault, WriteFault, ExportFault, Memory}
use Rattle.dx_sessions.specs.Ended.{erred_of, is_error}
use Rattle.dx_sessions.specs.Keeping.{Counts, Keeps, counts}
use Rattle.dx_sessions.specs.declared.ended.Ended.{Ended}

-- ---- faults

-- behind calls that left the count as it was
cause_after : {T : Type 0} (fault : End) (a b c : ℕ) (r : Result T End) → b ≡ a → Cause fault b c r → Cause fault a c r
cause_after fault a b c r stays cause = subst (λ (n : ℕ). Cause fault n c r) stays cause

-- no device failed
abbrev pub IsNoFault : {T : Type 0} → Result T End → Type 0
IsNoFault (Ok v) = Unit {0}
IsNoFault (Err ReadFault) = ⊥
IsNoFault (Err WriteFault) = ⊥
IsNoFault (Err ExportFault) = ⊥
IsNoFault (Err Memory) = Unit {0}

abbrev IsNoError : {T E : Type 0} → Result T E → Type 0
IsNoError (Ok v) = Unit {0}
IsNoError (Err e) = ⊥

is_no_error : {T E : Type 0} (v : T) (e : E) → ¬ (Ok v ≡ Err e)
is_no_error v e is = subst IsNoError is tt

-- without that device's fault its count stays
still_cause : {T : Type 0} (fault : End) (a b : ℕ) (r : Result T End) → ¬ (r ≡ Err fault) → b ≡ a → Cause fault a b r
still_cause fault a b r not stays = record { later = omega (arith, stays); failed = λ e. absurd (not e); otherwise = λ _. stays }

-- what ends well had no fault
ok_cause : {T : Type 0} (fault : End) (a b : ℕ) (v : T) → b ≡ a → Cause fault a b (Ok v)
ok_cause fault a b v stays = still_cause fault a b (Ok v) (is_no_error v fault) stays

pub no_cause : {T : Type 0} (fault : End) (n : ℕ) (v : T) → Cause fault n n (Ok v)
no_cause fault n v = ok_cause fault n n v refl

abbrev pub error_or : {T : Type 0} → End → Result T End → End
error_or end (Ok v) = end
error_or end (Err e) = e

-- want of memory is none
abbrev IsFault : End → Type 0
IsFault ReadFault = Unit {0}
IsFault WriteFault = Unit {0}
IsFault ExportFault = Unit {0}
IsFault Memory = ⊥

pub memory_cause : {T : Type 0} (fault : End) (n : ℕ) → IsFault fault → Cause {T = T} fault n n (Err Memory)
memory_cause {T} fault n is = still_cause fault n n (Err Memory) (λ e. subst IsFault (sym (ap (λ (r : Result T End). error_or fault r) e)) is) refl

cause_as : {S T : Type 0} (fault : End) (a b : ℕ) (r : Result S End) (other : Result T End) → (other ≡ Err fault → r ≡ Err fault) → (r ≡ Err fault → other ≡ Err fault)
    → Cause fault a b r → Cause fault a b other
cause_as fault a b r other same back cause = record { later = cause.later; failed = λ e. cause.failed (same e); otherwise = λ no. cause.otherwise (λ e. no (back e)) }

-- a text was written, or that was cut short
pub written_cause : {S T : Type 0} (was now : ℕ) (u : S) (v : T) → WriteCause was now (Ok u) → Cause WriteFault was now (Ok v)
written_cause was now u v cause = ok_cause WriteFault was now v (cause.otherwise (is_no_error u sink.Fault))

abbrev IsWant : {T : Type 0} → Result T SinkFail → Type 0
IsWant (Ok v) = ⊥
IsWant (Err sink.Fault) = ⊥
IsWant (Err sink.Memory) = Unit {0}

cut_cause : {S T : Type 0} (was now : ℕ) (fail : SinkFail) → WriteCause {T = S} was now (Err fail) → Cause {T = T} WriteFault was now (Err (write_end fail))
cut_cause was now sink.Fault cause = record { later = cause.later; failed = λ e. cause.failed refl; otherwise = λ no. absurd (no refl) }
cut_cause was now sink.Memory cause = still_cause WriteFault was now (Err Memory) (λ e. subst IsNoFault e tt) (cause.otherwise (λ e. subst IsWant e tt))

-- ---- what was put

none_put : (was : Option (List Export)) (files : FileMap) → HasPut was was files files
none_put was files = record { files = []; made = record { told = grows_by_nothing was; files = refl } }

exports_on : (files : FileMap) (a b : List Export) → after_exports files (a ++ b) ≡ after_exports (after_exports files a) b
exports_on files [] b = refl
exports_on files (e ∷ es) b = exports_on (file_put files e.0 e.1) es b

put_on : (was mid now : Option (List Export)) (before between behind : FileMap) → HasPut was mid before between → HasPut mid now between behind → HasPut was now before behind
put_on was mid now before between behind first second = record {
  files = first.files ++ second.files;
  made = record {
    told = grows_on was mid now first.files second.files first.made.told second.made.told;
    files = second.made.files ∙ ap (λ (files : FileMap). after_exports files second.files) first.made.files ∙ sym (exports_on before first.files second.files);
  };
}

-- ---- all of it

pub keeps_of : {T : Type 0} (a b : State) (was now : Counts) (r : Result T End) → now.content ≡ was.content → Cause ReadFault was.reads now.reads r → Cause WriteFault was.writes now.writes r
    → Cause ExportFault was.exports now.exports r → StateFits b → HasPut was.puts now.puts a.written.files b.written.files → Keeps a b was now r
keeps_of a b was now r same read write export fits written = record { same = same; read_cause = read; write_cause = write; export_cause = export; fits = fits; written = written }

-- no device was asked
pub keeps_still : {T : Type 0} (st : State) (was : Counts) (r : Result T End) → IsNoFault r → StateFits st → Keeps st st was was r
keeps_still st was r quiet fits = record {
  same = refl;
  read_cause = still_cause ReadFault was.reads was.reads r (λ e. subst IsNoFault e quiet) refl;
  write_cause = still_cause WriteFault was.writes was.writes r (λ e. subst IsNoFault e quiet) refl;
  export_cause = still_cause ExportFault was.exports was.exports r (λ e. subst IsNoFault e quiet) refl;
  fits = fits;
  written = none_put was.puts st.written.files;
}

-- one call that came to its end, and so left all counts as they were, and then another
pub keeps_on : {S T : Type 0} (a b c : State) (was mid now : Counts) (v : S) (r : Result T End) → Keeps a b was mid (Ok v) → Keeps b c mid now r → Keeps a c was now r
keeps_on a b c was mid now v r first second = record {
  same = second.same ∙ first.same;
  read_cause = cause_after ReadFault was.reads mid.reads now.reads r (first.read_cause.otherwise (is_no_error v ReadFault)) second.read_cause;
  write_cause = cause_after WriteFault was.writes mid.writes now.writes r (first.write_cause.otherwise (is_no_error v WriteFault)) second.write_cause;
  export_cause = cause_after ExportFault was.exports mid.exports now.exports r (first.export_cause.otherwise (is_no_error v ExportFault)) second.export_cause;
  fits = second.fits;
  written = put_on was.puts mid.puts now.puts a.written.files b.written.files c.written.files first.written second.written;
}

-- with another answer, but the same end
pub keeps_as : {S T : Type 0} (a b : State) (was now : Counts) (r : Result S End) (other : Result T End) → ((fault : End) → other ≡ Err fault → r ≡ Err fault) → ((fault : End) → r ≡ Err fault → other ≡ Err fault)
    → Keeps a b was now r → Keeps a b was now other
keeps_as a b was now r other same back h = record {
  same = h.same;
  read_cause = cause_as ReadFault was.reads now.reads r other (same ReadFault) (back ReadFault) h.read_cause;
  write_cause = cause_as WriteFault was.writes now.writes r other (same WriteFault) (back WriteFault) h.write_cause;
  export_cause = cause_as ExportFault was.exports now.exports r other (same ExportFault) (back ExportFault) h.export_cause;
  fits = h.fits;
  written = h.written;
}

abbrev pub ends : (T : Type 0) → End → Result T End
ends T end = Err end

pub same_end : (S T : Type 0) (end fault : End) → ends T end ≡ ends T fault → ends S end ≡ ends S fault
same_end S T end fault e = ap (λ (r : Result T End). ends S (error_or end r)) e

pub no_end : {S T : Type 0} (v : T) (r : Result S End) (fault : End) → Ok v ≡ Err fault → r ≡ Err fault
no_end v r fault e = absurd (is_no_error v fault e)

pub keeps_with : {S T : Type 0} {a b : State} {was now : Counts} {v : S} (other : T) → Keeps a b was now (Ok v) → Keeps a b was now (Ok other)
keeps_with {S} {T} {a} {b} {was} {now} {v} other h = keeps_as a b was now (Ok v) (Ok other) (λ fault e. no_end other (Ok v) fault e) (λ fault e. no_end v (Ok other) fault e) h

keeps_erred_of : (a b : State) (was now : Counts) (ended : Result Ended End) → Keeps a b was now ended → Keeps a b was now (erred_of ended)
keeps_erred_of a b was now (Ok ended) h = keeps_with (is_error ended) h
keeps_erred_of a b was now (Err end) h = keeps_as a b was now (Err end) (Err end) (λ fault e. same_end Ended Bool end fault e) (λ fault e. same_end Bool Ended end fault e) h

pub keeps_erred : (a b : State) (was now : Counts) (ended : Result Ended End) (erred : Result Bool End) → erred ≡ erred_of ended → Keeps a b was now ended → Keeps a b was now erred
keeps_erred a b was now ended erred same h = subst (λ (r : Result Bool End). Keeps a b was now r) (sym same) (keeps_erred_of a b was now ended h)

-- with a state that is the same
pub keeps_same : {T : Type 0} (a b c : State) (was now : Counts) (r : Result T End) → c ≡ b → Keeps a b was now r → Keeps a c was now r
keeps_same a b c was now r same h = subst (λ (s : State). Keeps a s was now r) (sym same) h

-- a text was written, or that was cut short
pub line_kept : {S T : Type 0} (st : State) (was : Counts) (writes : ℕ) (u : S) (v : T) → StateFits st → WriteCause was.writes writes (Ok u)
    → Keeps st st was (counts was.content was.reads writes was.exports was.puts) (Ok v)
line_kept st was writes u v fits cause = record {
  same = refl;
  read_cause = no_cause ReadFault was.reads v;
  write_cause = written_cause was.writes writes u v cause;
  export_cause = no_cause ExportFault was.exports v;
  fits = fits;
  written = none_put was.puts st.written.files;
}

abbrev IsWriteEnd : {T : Type 0} → Result T End → Type 0
IsWriteEnd (Ok v) = ⊥
IsWriteEnd (Err ReadFault) = ⊥
IsWriteEnd (Err WriteFault) = Unit {0}
IsWriteEnd (Err ExportFault) = ⊥
IsWriteEnd (Err Memory) = Unit {0}

write_ends : (T : Type 0) (fail : SinkFail) → IsWriteEnd (ends T (write_end fail))
write_ends T sink.Fault = tt
write_ends T sink.Memory = tt

pub line_cut : {S T : Type 0} (st : State) (was : Counts) (writes : ℕ) (fail : SinkFail) (end : End) → StateFits st → end ≡ write_end fail → WriteCause {T = S} was.writes writes (Err fail)
    → Keeps {T = T} st st was (counts was.content was.reads writes was.exports was.puts) (Err end)
line_cut {S} {T} st was writes fail end fits is cause =
    subst (λ (e : End). Keeps {T = T} st st was (counts was.content was.reads writes was.exports was.puts) (Err e)) (sym is)
    (record {
      same = refl;
      read_cause = still_cause ReadFault was.reads was.reads (Err (write_end fail)) (λ e. subst IsWriteEnd e (write_ends T fail)) refl;
      write_cause = cut_cause was.writes writes fail cause;
      export_cause = still_cause ExportFault was.exports was.exports (Err (write_end fail)) (λ e. subst IsWriteEnd e (write_ends T fail)) refl;
      fits = fits;
      written = none_put was.puts st.written.files;
    })
