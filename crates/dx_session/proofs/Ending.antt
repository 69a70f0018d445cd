-- How a call ends: with a line alone, cut short in loading, or behind it.
use Rattle.std.proofs.Common.{◌≡◌, ℕ, List, [], ◌∷◌, Bool, Option, Some, None, refl, sym, ap, ◌∙◌, subst, append-nil, arith}
use Rattle.std.specs.Prelude.{Result, Ok, Err, IfOk}
use Rattle.dx_ast.specs.declared.statements.Stmt.{Stmt}
use Rattle.dx_engine.specs.Executing.{Devices}
use Rattle.dx_getting.specs.Stands.{Answers}
use Rattle.dx_engine.proofs.Fronts.{front_all}
use Rattle.dx_getting.proofs.TellLaws.{adds_none}
use Rattle.dx_include.specs.Answers.{LoadCause, Loads, Refuses}
use Rattle.dx_include.specs.Loading.{Name, Loading}
use Rattle.dx_include.specs.declared.fail.LoadFail.{LoadFail}
use Rattle.dx_include.specs.declared.fail.LoadFail.TheVariants as fail
use Rattle.dx_include.specs.declared.loaded.Loaded.{Loaded}
use Rattle.dx_io.specs.Devices.{FileMap, Grows, GrowsInto, Rose, Writes}
use Rattle.dx_io.proofs.Growing.{with_more-nil, grows_by_nothing}
use Rattle.dx_making.specs.Ends.{reads_ahead}
use Rattle.dx_making.specs.declared.end.End.{End}
use Rattle.dx_outcome.specs.Computed.{of_ends, of_loading}
use Rattle.dx_outcome.specs.Ends.{IsWhole, IsCutShort, IsFront, in_loading, behind_loading, with_reads}
use Rattle.dx_outcome.specs.Lines.{refusal_line, usage_line}
use Rattle.dx_outcome.specs.Outcome.{Outcome, line_alone, outcome}
use Rattle.dx_outcome.specs.Plan.{Plan, NoLine, Refuses as PlanRefuses}
use Rattle.dx_session.specs.Ends.{Ends, SeesSo, end_of}
use Rattle.dx_session.specs.Loads.{LoadsOwn}
use Rattle.dx_sessions.specs.Does.{devices}
use Rattle.dx_words.specs.declared.words.Words.{Words}

-- ---- a line alone

abbrev with_written : Devices → Option (List ℕ) → Devices
with_written was written = record { told = was.told; written = written; puts = was.puts }

line_whole : (text : List ℕ) (was : Devices) (written : Option (List ℕ)) → Grows was.written written text → IsWhole (line_alone text ∷ []) was (with_written was written)
line_whole text was written h = record {
  printed = subst (Grows was.written written) (sym (append-nil text)) h;
  puts = grows_by_nothing was.puts;
  told = adds_none was.told;
}

none_whole : (was : Devices) → IsWhole [] was was
none_whole was = record { printed = grows_by_nothing was.written; puts = grows_by_nothing was.puts; told = adds_none was.told }

line_cut : (ahead : Bool) (text : List ℕ) (was : Devices) (written : Option (List ℕ)) → GrowsInto was.written written text → IsCutShort ahead (line_alone text ∷ []) was (with_written was written)
line_cut ahead text was written h = record {
  before = [];
  next = line_alone text ∷ [];
  rest = [];
  all = refl;
  few = omega arith;
  between = was;
  whole = none_whole was;
  part = record {
    printed = subst (GrowsInto was.written written) (sym (append-nil text)) h;
    puts = ([], [], refl, grows_by_nothing was.puts);
    told = front_all ahead was.told was.told [] [] [] (adds_none was.told) refl;
  };
}

pub line_sees : (text : List ℕ) (status : ℕ) (was : Devices) (written : Option (List ℕ)) (r : Result ℕ End) → Writes was.written written text r → IfOk r (λ own. own ≡ status) → SeesSo r (line_alone text ∷ []) status was (with_written was written)
line_sees text status was written (Ok own) h is = (is, line_whole text was written h)
line_sees text status was written (Err end) h is = line_cut (reads_ahead end) text was written h

-- ---- behind loading

-- nothing was asked for
pub no_reads : (was : Devices) → with_reads was [] ≡ was
no_reads was = ap (λ (asked : Option (List Name)). devices was.told.done asked was.written was.puts) (with_more-nil was.told.asked)

pub sees_ends : (r : Result ℕ End) (o : Outcome) (was now : Devices) → SeesSo r o.seen o.status (with_reads was o.reads) now → Ends r o was now
sees_ends (Ok status) o was now h = h
sees_ends (Err end) o was now h = behind_loading h

-- behind these reads, as they are told
pub behind_reads : (r : Result ℕ End) (o : Outcome) (was : Devices) (asked : Option (List Name)) (now : Devices) → Grows was.told.asked asked o.reads
    → SeesSo r o.seen o.status (devices was.told.done asked was.written was.puts) now → Ends r o was now
behind_reads r o was asked now grown h =
    sees_ends r o was now (subst (λ (a : Option (List Name)). SeesSo r o.seen o.status (devices was.told.done a was.written was.puts) now) grown h)

-- ---- what loading answers

abbrev IsRefused : Loading → LoadFail → Option (List Name) → Option (List Name) → Type 0
IsRefused l why old new = (l.ends ≡ Err why) × Grows old new l.reads

is_refused : (l : Loading) (why : LoadFail) (old new : Option (List Name)) → end_of why ≡ None → Refuses l why old new → IsRefused l why old new
is_refused l fail.ReadFault old new no_end r = absurd cc
is_refused l fail.Memory old new no_end r = absurd cc
is_refused l (fail.Missing n) old new no_end r = r
is_refused l (fail.Nested n) old new no_end r = r
is_refused l (fail.TooLong n) old new no_end r = r
is_refused l (fail.Syntax n e) old new no_end r = r

front_asked : (l : Loading) (why : LoadFail) (end : End) (old new : Option (List Name)) → end_of why ≡ Some end → Refuses l why old new → GrowsInto old new l.reads
front_asked l fail.ReadFault end old new is r = r
front_asked l fail.Memory end old new is r = r
front_asked l (fail.Missing n) end old new is r = absurd cc
front_asked l (fail.Nested n) end old new is r = absurd cc
front_asked l (fail.TooLong n) end old new is r = absurd cc
front_asked l (fail.Syntax n f) end old new is r = absurd cc

module _ (answer : Answers) (files : FileMap) (said : Words) where
  ends_reads : (reads : List Name) (ends : Result Loaded LoadFail) → (outcome answer files (of_ends said reads ends)).reads ≡ reads
  ends_reads reads (Ok loaded) = refl
  ends_reads reads (Err why) = refl

  -- it was refused
  pub refused_ends : (r : Result ℕ End) (l : Loading) (why : LoadFail) (was : Devices) (asked : Option (List Name)) (written : Option (List ℕ)) → end_of why ≡ None → Refuses l why was.told.asked asked
      → Writes was.written written (refusal_line why) r → IfOk r (λ own. own ≡ 2) → Ends r (outcome answer files (of_loading said l)) was (devices was.told.done asked written was.puts)
  refused_ends r l why was asked written no_end h writes is =
      let refused = is_refused l why was.told.asked asked no_end h in
      let behind = devices was.told.done asked was.written was.puts in
      subst (λ (p : Plan). Ends r (outcome answer files p) was (devices was.told.done asked written was.puts)) (sym (ap (of_ends said l.reads) refused.0))
      (behind_reads r (outcome answer files (PlanRefuses l.reads why)) was asked (devices was.told.done asked written was.puts) refused.1 (line_sees (refusal_line why) 2 behind written r writes is))

  -- it was cut short
  pub cut_ends : (l : Loading) (why : LoadFail) (end : End) (was : Devices) (asked : Option (List Name)) → end_of why ≡ Some end → Refuses l why was.told.asked asked
      → IsFront (reads_ahead end) (outcome answer files (of_loading said l)) was (devices was.told.done asked was.written was.puts)
  cut_ends l why end was asked is h =
      let part = front_asked l why end was.told.asked asked is h in
      in_loading part.0 part.1 (ends_reads l.reads l.ends ∙ part.2) (ap (λ (a : Option (List Name)). devices was.told.done a was.written was.puts) part.3)

-- ---- no line, and nothing at all

pub usage_ends : (answer : Answers) (files : FileMap) (r : Result ℕ End) (was : Devices) (written : Option (List ℕ)) → Writes was.written written usage_line r → IfOk r (λ own. own ≡ 3)
    → Ends r (outcome answer files NoLine) was (with_written was written)
usage_ends answer files r was written writes is =
    sees_ends r (outcome answer files NoLine) was (with_written was written)
    (subst (λ (d : Devices). SeesSo r (line_alone usage_line ∷ []) 3 d (with_written was written)) (sym (no_reads was)) (line_sees usage_line 3 was written r writes is))

pub at_once : (ahead : Bool) (o : Outcome) (was : Devices) → IsFront ahead o was was
at_once ahead o was = in_loading [] o.reads refl (sym (no_reads was))

-- ---- the text of a workload

own_loads : (l : Loading) (r : Result (List Stmt) LoadFail) (old new : Option (List Name)) → Loads l r old new → (r ≡ Err fail.ReadFault → ⊥) → LoadsOwn l r
own_loads l (Ok statements) old new h never = h.0
own_loads l (Err fail.ReadFault) old new h never = never refl
own_loads l (Err fail.Memory) old new h never = tt
own_loads l (Err (fail.Missing n)) old new h never = h.0
own_loads l (Err (fail.Nested n)) old new h never = h.0
own_loads l (Err (fail.TooLong n)) old new h never = h.0
own_loads l (Err (fail.Syntax n e)) old new h never = h.0

none_rose : Rose 0 0 → ⊥
none_rose h = absurd (omega (arith, h))

-- its reads have no faults
pub alone_loads : (l : Loading) (r : Result (List Stmt) LoadFail) (old new : Option (List Name)) → Loads l r old new → LoadCause 0 0 r → LoadsOwn l r
alone_loads l r old new h cause = own_loads l r old new h (λ e. none_rose (cause.failed e))
